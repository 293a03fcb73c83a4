-- What the reader gives of rules.
use Rattle.std.proofs.Common.{◌≡◌, ◌⊎◌, inl, inr, ℕ, zero, suc, ◌+◌, ◌^◌, ◌<◌, ◌≤◌, List, [], ◌∷◌, ◌++◌, length, map, ap, ◌∙◌, sym, refl, subst, arith, true, false, Option, Some, None, codes}
use Rattle.std.specs.Prelude.{nat_lt, if◌then◌else◌}
use Rattle.std.proofs.lemmas.Bool.Decides.{nat_tests}
use Rattle.std.proofs.lemmas.List.{length-append}
use Rattle.bk_ops.specs.declared.table.Op.{Op}
use Rattle.bk_ops.specs.declared.table.AuxKind.{AuxKind}
use Rattle.bk_ops.specs.declared.table.AuxKind.TheVariants as kind
use Rattle.bk_ops.specs.Names.{name_of}
use Rattle.bk_ops.specs.Table.{info_of}
use Rattle.bk_rule.specs.declared.trees.Expr.{Expr}
use Rattle.bk_rule.specs.declared.trees.IntPart.{IntPart}
use Rattle.bk_rule.specs.declared.trees.IntPart.TheVariants as part
use Rattle.bk_rule.specs.declared.trees.Pattern.{Pattern}
use Rattle.bk_rule.specs.declared.trees.Build.{Build}
use Rattle.bk_rule.specs.declared.trees.Rule.{Rule}
use Rattle.bk_rule.specs.Trees.{any, var, named}
use Rattle.bk_rule.proofs.Opened.{opened}
use Rattle.bk_rule_text.specs.Front.{◌>>=◌, is_done, mark_at, onto}
use Rattle.bk_rule_text.specs.Layout.{variable, name_text, type_variable_text, int_part_text, aux_text, front_text, pattern_text, patterns_text, conditions_text, build_text, rule_text}
use Rattle.bk_rule_text.specs.Names.{Variables, in_scope}
use Rattle.bk_rule_text.specs.Exprs.{expr_at}
use Rattle.bk_rule_text.specs.Patterns.{op_at, is_node, left_at, pattern_at}
use Rattle.bk_rule_text.specs.Builds.{build_at}
use Rattle.bk_rule_text.specs.Rules.{conditions, right_at, first_in_right, written_at, whole_op_at, whole_at, if_fixed, fixed, count_or_none, int_of, made_int, aux_of, first_argument, numbers_from, arguments, whole_rule, rule_at}
use Rattle.bk_rule_text.proofs.Inverse.{Was, none_is_some, same, steps, marked, mapped, tested_by}
use Rattle.bk_rule_text.proofs.PrintedExprs.{Named, a_variable}
use Rattle.bk_rule_text.proofs.PrintedPatterns.{OpWritten, Next, Nexts, NextInt, tree, Lefts, no_left, any_left, var_left, node_left}
use Rattle.bk_rule_text.proofs.PrintedBuilds.{MadeInt, MadeAux, Rights, no_right, var_right, node_right}
use Rattle.bk_rule_text.proofs.PrintedRules.{scope, AllWritten, RuleWritten, row_of_one}
use Rattle.bk_rule_text.proofs.ReadExprs.{renamed, place_printed, expr_gives}
use Rattle.bk_rule_text.proofs.ReadPatterns.{no_op_written, op_gives, pattern_gives}
use Rattle.bk_rule_text.proofs.ReadBuilds.{build_gives}
use Rattle.bk_rule_text.proofs.Rows.{text_of_node}

-- ---- a text has more bytes than variables
next_few : (k i l : ℕ) → Next k i l → l ≤ k + 1
next_few k i l (inl h) = omega (arith, h.1)
next_few k i l (inr h) = omega (arith, h.1)

name_few : (k : ℕ) (o : Option ℕ) (l : ℕ) → Nexts k o l → l ≤ k + length (name_text o)
name_few k None l h = omega arith
name_few k (Some i) l h = let n = next_few k i l h in omega (arith, length-append (variable i) (codes ":"))

type_few : (k : ℕ) (o : Option ℕ) (l : ℕ) → Nexts k o l → l ≤ k + length (type_variable_text o)
type_few k None l h = omega arith
type_few k (Some i) l h = let n = next_few k i l h in omega (arith, length-append (codes " <") (variable i ++ codes ">"))

int_few : (k : ℕ) (o : Option IntPart) (l : ℕ) → NextInt k o l → l ≤ k + length (int_part_text o)
int_few k None l h = omega arith
int_few k (Some (part.Number z)) l h = omega (arith, h.1)
int_few k (Some (part.Var i)) l h = let n = next_few k i l h in omega (arith, length-append (codes " [") (variable i ++ codes "]"))

aux_few : (k : ℕ) (o : Option ℕ) (l : ℕ) → Nexts k o l → l ≤ k + length (aux_text o)
aux_few k None l h = omega arith
aux_few k (Some i) l h = let n = next_few k i l h in omega (arith, length-append (codes " {") (variable i ++ codes "}"))

few_plain : (n o t i x q p r : List ℕ) → p ≡ n ++ ((40 ∷ (o ++ (t ++ (i ++ x)))) ++ (q ++ codes ")")) → length n + length t + length i + length x + length q + length r ≤ length (32 ∷ (p ++ r))
few_plain n o t i x q p r e =
    let s : length p ≡ length n + (suc (length o + (length t + (length i + length x))) + (length q + 1)) = simp (length-append) at (ap length e) in
    let u : length (32 ∷ (p ++ r)) ≡ suc (length p + length r) = ap suc (length-append p r) in
    omega arith

few_in_tree : (name : Option ℕ) (o : Op) (ty : Option ℕ) (int : Option IntPart) (aux : Option ℕ) (args qs : List Pattern) →
    length (name_text name) + length (type_variable_text ty) + length (int_part_text int) + length (aux_text aux) + length (patterns_text args) + length (patterns_text qs) ≤ length (patterns_text (tree name o ty int aux args ∷ qs))
unfolding patterns_text front_text
few_in_tree name o ty int aux args qs =
    few_plain (name_text name) (name_of o) (type_variable_text ty) (int_part_text int) (aux_text aux) (patterns_text args) (pattern_text (tree name o ty int aux args)) (patterns_text qs) (text_of_node name o ty int aux args)

few_in_row : (p : Pattern) (qs : List Pattern) → 1 + length (patterns_text qs) ≤ length (patterns_text (p ∷ qs))
unfolding patterns_text
few_in_row p qs = let e : length (32 ∷ (pattern_text p ++ patterns_text qs)) ≡ suc (length (pattern_text p) + length (patterns_text qs)) = ap suc (length-append (pattern_text p) (patterns_text qs)) in omega (arith, e)

lefts_few : (k l : ℕ) (ps : List Pattern) → Lefts k ps l → l ≤ k + length (patterns_text ps)
lefts_few k l ps (no_left j) = omega arith
lefts_few k l ps (any_left j m qs h) = let a = lefts_few j m qs h in let b = few_in_row any qs in omega arith
lefts_few k l ps (var_left j m n i qs h g) = let a = lefts_few m n qs g in let b = few_in_row (var i) qs in let c = next_few j i m h in omega arith
lefts_few k l ps (node_left j k1 k2 k3 k4 m n name o ty int aux args qs h w g f e d c) =
    let a = few_in_tree name o ty int aux args qs in
    let a1 = name_few j name k1 h in
    let a2 = type_few k1 ty k2 g in
    let a3 = int_few k2 int k3 f in
    let a4 = aux_few k3 aux k4 e in
    let a5 = lefts_few k4 m args d in
    let a6 = lefts_few m n qs c in
    omega arith

left_in_rule : (r : Rule) → length (pattern_text r.left) + 1 ≤ length (rule_text r)
unfolding rule_text
left_in_rule r =
    let t = conditions_text r.conds ++ (codes " => " ++ (build_text r.right ++ codes "\n")) in
    let a = length-append (pattern_text r.left) t in
    let b = length-append (conditions_text r.conds) (codes " => " ++ (build_text r.right ++ codes "\n")) in
    let c = length-append (codes " => ") (build_text r.right ++ codes "\n") in
    omega arith

variables_few : (r : Rule) (l : ℕ) → Lefts 0 (r.left ∷ []) l → length (rule_text r) < 2 ^ 64 → l < 2 ^ 64
variables_few r l h b =
    let a = lefts_few 0 l (r.left ∷ []) h in
    let c = row_of_one r.left in
    let d = left_in_rule r in
    omega arith

-- a rule as the reader gives it, whose variables have small numbers
pub record Good (r : Rule) : Type 0 where
  pub variables : ℕ
  pub written : RuleWritten r variables
  pub few : variables < 2 ^ 64

-- ---- rules that are written out
abbrev WasLeft : Option (Pattern × List (List ℕ) × List ℕ) → Pattern → List (List ℕ) → List ℕ → Type 0
WasLeft o p names rest = o ≡ Some (p, names, rest)

left_gives : (m : ℕ) (text rest : List ℕ) (names : List (List ℕ)) (p : Pattern) → left_at m [] text ≡ Some (p, names, rest) → Lefts 0 (p ∷ []) (length names) × (is_node p ≡ true)
unfolding left_at
left_gives m text rest names p e =
    let a = steps (pattern_at m [] text) (λ q. if is_node q.0 then Some q else None) (p, names, rest) e in
    by a.0 a.1 (tested_by (is_node a.0.0) (Some a.0) None (Some (p, names, rest)) a.2)
  where
    by : (q : Pattern × List (List ℕ) × List ℕ) → pattern_at m [] text ≡ Some q → ((is_node q.0 ≡ true) × WasLeft (Some q) p names rest) ⊎ ((is_node q.0 ≡ false) × WasLeft None p names rest) → Lefts 0 (p ∷ []) (length names) × (is_node p ≡ true)
    by q h (inl u) = let s = same q (p, names, rest) u.1 in (pattern_gives m [] names text rest p (h ∙ u.1), sym (ap (λ v. is_node v.0) s) ∙ u.0)
    by q h (inr u) = none_is_some (p, names, rest) u.1

onto_gives : (x : Expr) (o : Option (List Expr × List ℕ)) (xs : List Expr) (rest : List ℕ) → onto x o ≡ Some (xs, rest) → (ys : List Expr) × (o ≡ Some (ys, rest)) × (xs ≡ x ∷ ys)
onto_gives x None xs rest e = none_is_some (xs, rest) e
onto_gives x (Some m) xs rest e =
    let q = same (x ∷ m.0, m.1) (xs, rest) e in
    (m.0, ap (λ p. Some (m.0, p.1)) q, sym (ap (λ p. p.0) q))

conditions_give : (s : Variables) (m : ℕ) → length s.names < 2 ^ 64 → (n : ℕ) (text rest : List ℕ) (xs : List Expr) → conditions (expr_at s m) n text ≡ Some (xs, rest) → AllWritten (renamed s) xs
unfolding conditions
conditions_give s m b zero text rest xs e = subst (AllWritten (renamed s)) (ap (λ p. p.0) (same ([], text) (xs, rest) e)) tt
conditions_give s m b (suc n) text rest xs e =
    by (marked (mark_at (codes "&&") text) (λ r. expr_at s m r >>= λ x. onto x.0 (conditions (expr_at s m) n x.1)) (Some ([], text)) (Some (xs, rest)) e) (conditions_give s m b n)
  where
    by : ((r : List ℕ) × (mark_at (codes "&&") text ≡ Some r) × Was (expr_at s m r >>= λ x. onto x.0 (conditions (expr_at s m) n x.1)) xs rest) ⊎ ((mark_at (codes "&&") text ≡ None) × Was (Some ([], text)) xs rest)
        → ((text2 rest2 : List ℕ) (xs2 : List Expr) → conditions (expr_at s m) n text2 ≡ Some (xs2, rest2) → AllWritten (renamed s) xs2) → AllWritten (renamed s) xs
    by (inl a) on =
        let c = steps (expr_at s m a.0) (λ x. onto x.0 (conditions (expr_at s m) n x.1)) (xs, rest) a.2 in
        let d = onto_gives c.0.0 (conditions (expr_at s m) n c.0.1) xs rest c.2 in
        subst (AllWritten (renamed s)) (sym d.2) (expr_gives s b m a.0 c.0.1 c.0.0 c.1, on c.0.1 rest d.0 d.1)
    by (inr a) on = subst (AllWritten (renamed s)) (ap (λ p. p.0) (same ([], text) (xs, rest) a.1)) tt

right_gives : (s : Variables) (m : ℕ) (text : List ℕ) (b : Build) → length s.names < 2 ^ 64 → right_at s m text ≡ Some b → Rights (renamed s) (b ∷ [])
unfolding right_at
right_gives s m text b n e =
    let a = steps (mark_at (codes "=>") text) (λ r. build_at s m r >>= λ x. if is_done x.1 then Some x.0 else None) b e in
    let c = steps (build_at s m a.0) (λ x. if is_done x.1 then Some x.0 else None) b a.2 in
    by c.0 (build_gives s n m a.0 c.0.1 c.0.0 c.1) (tested_by (is_done c.0.1) (Some c.0.0) None (Some b) c.2)
  where
    by : (x : Build × List ℕ) → Rights (renamed s) (x.0 ∷ []) → ((is_done x.1 ≡ true) × (Some x.0 ≡ Some b)) ⊎ ((is_done x.1 ≡ false) × (None ≡ Some b)) → Rights (renamed s) (b ∷ [])
    by x w (inl u) = subst (λ (y : Build). Rights (renamed s) (y ∷ [])) (same x.0 b u.1) w
    by x w (inr u) = none_is_some b u.1

written_gives : (text : List ℕ) (r : Rule) → written_at text ≡ Some r → length (rule_text r) < 2 ^ 64 → Good r
unfolding written_at
written_gives text r e b =
    let n = length text in
    let a = steps (left_at n [] text) (λ l. conditions (expr_at (record { names = l.1; first = 0 }) n) (length l.2) l.2 >>= λ c. right_at (record { names = l.1; first = first_in_right l.0 }) n c.1 >>= λ x. Some (record { left = l.0; conds = c.0; right = x })) r e in
    let p = a.0.0 in
    let names = a.0.1 in
    let c = steps (conditions (expr_at (record { names = names; first = 0 }) n) (length a.0.2) a.0.2) (λ c. right_at (record { names = names; first = first_in_right p }) n c.1 >>= λ x. Some (record { left = p; conds = c.0; right = x })) r a.2 in
    let d = steps (right_at (record { names = names; first = first_in_right p }) n c.0.1) (λ x. Some (record { left = p; conds = c.0.0; right = x })) r c.2 in
    let q = same (record { left = p; conds = c.0.0; right = d.0 }) r d.2 in
    let w = left_gives n text a.0.2 names p a.1 in
    let l : Lefts 0 (r.left ∷ []) (length names) = subst (λ (x : Rule). Lefts 0 (x.left ∷ []) (length names)) q w.0 in
    let few = variables_few r (length names) l b in
    record {
      variables = length names;
      written = subst (λ (x : Rule). RuleWritten x (length names)) q
          (record {
            left = w.0;
            node = w.1;
            conds = conditions_give (record { names = names; first = 0 }) n few (length a.0.2) a.0.2 c.0.1 c.0.0 c.1;
            right = right_gives (record { names = names; first = first_in_right p }) n c.0.1 d.0 few d.1;
          });
      few = few;
    }

-- ---- rules that replace an op alone
whole_op_gives : (text rest : List ℕ) (o : Op) → whole_op_at text ≡ Some (o, rest) → OpWritten o
unfolding whole_op_at
whole_op_gives text rest o e =
    let a = steps (mark_at (codes "(") text) (λ t. op_at t >>= λ p. mark_at (codes "...") p.1 >>= λ d. mark_at (codes ")") d >>= λ r. Some (p.0, r)) (o, rest) e in
    let b = steps (op_at a.0) (λ p. mark_at (codes "...") p.1 >>= λ d. mark_at (codes ")") d >>= λ r. Some (p.0, r)) (o, rest) a.2 in
    let c = steps (mark_at (codes "...") b.0.1) (λ d. mark_at (codes ")") d >>= λ r. Some (b.0.0, r)) (o, rest) b.2 in
    let d = steps (mark_at (codes ")") c.0) (λ r. Some (b.0.0, r)) (o, rest) c.2 in
    subst OpWritten (ap (λ p. p.0) (same (b.0.0, d.0) (o, rest) d.2)) (op_gives a.0 b.0.1 b.0.0 b.1)

abbrev WereOps : Option (Op × Op) → Op → Op → Type 0
WereOps o from to = o ≡ Some (from, to)

whole_gives : (text : List ℕ) (from to : Op) → whole_at text ≡ Some (from, to) → OpWritten from × OpWritten to
unfolding whole_at
whole_gives text from to e =
    let a = steps (whole_op_at text) (λ p. mark_at (codes "=>") p.1 >>= λ t. whole_op_at t >>= λ q. if is_done q.1 then Some (p.0, q.0) else None) (from, to) e in
    let b = steps (mark_at (codes "=>") a.0.1) (λ t. whole_op_at t >>= λ q. if is_done q.1 then Some (a.0.0, q.0) else None) (from, to) a.2 in
    let c = steps (whole_op_at b.0) (λ q. if is_done q.1 then Some (a.0.0, q.0) else None) (from, to) b.2 in
    by a.0.0 c.0 (whole_op_gives text a.0.1 a.0.0 a.1) (whole_op_gives b.0 c.0.1 c.0.0 c.1) (tested_by (is_done c.0.1) (Some (a.0.0, c.0.0)) None (Some (from, to)) c.2)
  where
    by : (o : Op) (q : Op × List ℕ) → OpWritten o → OpWritten q.0 → ((is_done q.1 ≡ true) × WereOps (Some (o, q.0)) from to) ⊎ ((is_done q.1 ≡ false) × WereOps None from to) → OpWritten from × OpWritten to
    by o q w v (inl u) = let s = same (o, q.0) (from, to) u.1 in (subst OpWritten (ap (λ p. p.0) s) w, subst OpWritten (ap (λ p. p.1) s) v)
    by o q w v (inr u) = none_is_some (from, to) u.1

fixed_written : (o : Op) → OpWritten o → OpWritten (fixed o)
unfolding fixed
fixed_written o w = by (info_of o).arity
  where
    by : (n : Option ℕ) → OpWritten (if_fixed o n)
    by None = no_op_written
    by (Some n) = w

lefts_vars : (k n l : ℕ) → l ≡ k + n → Lefts k (map var (numbers_from k n)) l
unfolding numbers_from
lefts_vars k zero l e = subst (λ (m : ℕ). Lefts k [] m) (let d : k ≡ l = omega arith in d) (no_left k)
lefts_vars k (suc n) l e = var_left k (suc k) l k (map var (numbers_from (suc k) n)) (inr (refl, refl)) (lefts_vars (suc k) n l (omega arith))

named_of : (l i : ℕ) → i < l → l < 2 ^ 64 → Named (scope l 0) i
unfolding in_scope
named_of l i h b = record {
  found = ap (λ o. o >>= λ k. if nat_lt k 0 then None else Some k) (place_printed l i h b) ∙ (let t : nat_lt i 0 ≡ false = grind (arith, nat_tests) in ap (λ c. if c then None else Some i) t);
  small = omega arith;
}

rights_vars : (k n l : ℕ) → k + n ≤ l → l < 2 ^ 64 → Rights (scope l 0) (map named (numbers_from k n))
unfolding numbers_from
rights_vars k zero l h b = no_right
rights_vars k (suc n) l h b = var_right k (map named (numbers_from (suc k) n)) (named_of l k (omega arith) b) (rights_vars (suc k) n l (omega arith) b)

abbrev after_int : AuxKind → ℕ
after_int kind.Int = 1
after_int _ = 0

int_next : (a : AuxKind) → NextInt 0 (int_of a) (after_int a)
int_next kind.None = refl
int_next kind.Int = inr (refl, refl)
int_next kind.Name = refl
int_next kind.Ty = refl

aux_next : (a : AuxKind) → Nexts (after_int a) (aux_of a) (first_argument a)
aux_next kind.None = refl
aux_next kind.Int = refl
aux_next kind.Name = inr (refl, refl)
aux_next kind.Ty = inr (refl, refl)

int_made : (a : AuxKind) (l : ℕ) → first_argument a ≤ l → l < 2 ^ 64 → MadeInt (scope l 0) (made_int a)
int_made kind.None l h b = tt
int_made kind.Int l h b = a_variable 0 (named_of l 0 (omega arith) b)
int_made kind.Name l h b = tt
int_made kind.Ty l h b = tt

aux_made : (a : AuxKind) (l : ℕ) → first_argument a ≤ l → l < 2 ^ 64 → MadeAux (scope l 0) (aux_of a)
aux_made kind.None l h b = tt
aux_made kind.Int l h b = tt
aux_made kind.Name l h b = named_of l 0 (omega arith) b
aux_made kind.Ty l h b = named_of l 0 (omega arith) b

whole_left : (from to : Op) → OpWritten from → Lefts 0 ((whole_rule from to).left ∷ []) (first_argument (info_of from).aux + count_or_none (info_of from).arity)
unfolding whole_rule arguments
whole_left from to w =
    let a = (info_of from).aux in
    let k = first_argument a in
    let n = count_or_none (info_of from).arity in
    node_left 0 0 0 (after_int a) k (k + n) (k + n) None (fixed from) None (int_of a) (aux_of a) (map var (numbers_from k n)) [] refl (fixed_written from w) refl (int_next a) (aux_next a) (lefts_vars k n (k + n) refl) (no_left (k + n))

whole_right : (from to : Op) (l : ℕ) → OpWritten to → l ≡ first_argument (info_of from).aux + count_or_none (info_of from).arity → l < 2 ^ 64 → Rights (scope l 0) ((whole_rule from to).right ∷ [])
unfolding whole_rule arguments
whole_right from to l w e b =
    let a = (info_of from).aux in
    let k = first_argument a in
    let n = count_or_none (info_of from).arity in
    node_right (fixed to) None (made_int a) (aux_of a) (map named (numbers_from k n)) [] (fixed_written to w) tt (int_made a l (omega arith) b) (aux_made a l (omega arith) b) (rights_vars k n l (omega arith) b) no_right

whole_node : (from to : Op) → is_node (whole_rule from to).left ≡ true
unfolding whole_rule opened
whole_node from to = refl

whole_first : (from to : Op) → 0 ≡ first_in_right (whole_rule from to).left
unfolding whole_rule opened
whole_first from to = refl

no_conds : (from to : Op) (s : Variables) → AllWritten s (whole_rule from to).conds
unfolding whole_rule
no_conds from to s = tt

whole_good : (from to : Op) → OpWritten from → OpWritten to → length (rule_text (whole_rule from to)) < 2 ^ 64 → Good (whole_rule from to)
whole_good from to w v b =
    let r = whole_rule from to in
    let l = first_argument (info_of from).aux + count_or_none (info_of from).arity in
    let h = whole_left from to w in
    let few = variables_few r l h b in
    record {
      variables = l;
      written = record {
        left = h;
        node = whole_node from to;
        conds = no_conds from to (scope l 0);
        right = subst (λ (n : ℕ). Rights (scope l n) (r.right ∷ [])) (whole_first from to) (whole_right from to l v refl few);
      };
      few = few;
    }

pub rule_gives : (text : List ℕ) (r : Rule) → rule_at text ≡ Some r → length (rule_text r) < 2 ^ 64 → Good r
unfolding rule_at
rule_gives text r e b = by (mapped (λ w. Some (whole_rule w.0 w.1)) (whole_at text) (written_at text) (Some r) e)
  where
    by : ((w : Op × Op) × (whole_at text ≡ Some w) × (Some (whole_rule w.0 w.1) ≡ Some r)) ⊎ ((whole_at text ≡ None) × (written_at text ≡ Some r)) → Good r
    by (inl a) =
        let q = same (whole_rule a.0.0 a.0.1) r a.2 in
        let w = whole_gives text a.0.0 a.0.1 a.1 in
        subst Good q (whole_good a.0.0 a.0.1 w.0 w.1 (subst (λ (x : Rule). length (rule_text x) < 2 ^ 64) (sym q) b))
    by (inr a) = written_gives text r a.1 b
