-- Rules that are printed are read back.
use Rattle.std.proofs.Common.{◌≡◌, ℕ, zero, suc, ◌+◌, ◌^◌, ◌<◌, ◌≤◌, List, [], ◌∷◌, ◌++◌, append_assoc, append-nil, length, ap, ◌∙◌, sym, refl, arith, true, false, Option, Some, None, codes}
use Rattle.std.specs.Prelude.{if◌then◌else◌}
use Rattle.std.specs.Option.{option_map_or}
use Rattle.std.proofs.lemmas.List.{length-append}
use Rattle.bk_ops.specs.declared.table.Op.{Op}
use Rattle.bk_ops.specs.Names.{name_of}
use Rattle.bk_rule.specs.declared.trees.Expr.{Expr}
use Rattle.bk_rule.specs.declared.trees.IntPart.{IntPart}
use Rattle.bk_rule.specs.declared.trees.IntPart.TheVariants as int_part
use Rattle.bk_rule.specs.declared.trees.Pattern.{Pattern}
use Rattle.bk_rule.specs.declared.trees.Build.{Build}
use Rattle.bk_rule.specs.declared.trees.Rule.{Rule}
use Rattle.bk_rule.proofs.Opened.{opened}
use Rattle.bk_rule_text.specs.declared.read.operator.Level.TheVariants as level
use Rattle.bk_rule_text.specs.Front.{◌>>=◌, Read, is_done, unblanked, after, mark_at, where_marked, onto}
use Rattle.bk_rule_text.specs.Layout.{symbol, variable, expr_text, type_variable_text, int_part_text, aux_text, front_text, pattern_text, patterns_text, conditions_text, build_text, builds_text}
use Rattle.bk_rule_text.specs.Names.{Variables}
use Rattle.bk_rule_text.specs.Words.{is_word_byte, begins_word}
use Rattle.bk_rule_text.specs.Exprs.{products, sums, comparisons, first_of, symbol_at, and_at, operator_at, chain, chained, operand_in, operand_at, expr_at}
use Rattle.bk_rule_text.specs.Patterns.{op_at, is_node, left_at, pattern_at}
use Rattle.bk_rule_text.specs.Builds.{build_at}
use Rattle.bk_rule_text.specs.Rules.{conditions, right_at, first_in_right, numbers_from, written_at, whole_op_at, whole_at, whole_rule, rule_at}
use Rattle.bk_rule_text.proofs.Printed.{idle}
use Rattle.bk_rule_text.proofs.PrintedExprs.{Ends, Written, unblanked_blank, expr_back}
use Rattle.bk_rule_text.proofs.PrintedPatterns.{OpWritten, op_back, aux_no_word, int_no_word, type_no_word, Closes, by_blank, Opens, opens, opens_solid, tree, Lefts, no_left, any_left, var_left, node_left, left_alone, row_tail, front_around, tree_around, any_opens, var_opens, tree_opens}
use Rattle.bk_rule_text.proofs.PrintedBuilds.{Rights, var_right, node_right, right_alone, inner_short, named_opens, made_opens}
use Rattle.bk_rule_text.proofs.ReadExprs.{printed_names}
use Rattle.bk_rule_text.proofs.Rows.{text_of_node}

-- a rule without the end of its line
unfoldable pub body : Rule → List ℕ
body r = pattern_text r.left ++ (conditions_text r.conds ++ (codes " => " ++ build_text r.right))

-- the variables of a rule as they are printed, of which those from a number on may be named
abbrev pub scope : ℕ → ℕ → Variables
scope l first = record { names = printed_names l; first = first }

abbrev pub AllWritten : Variables → List Expr → Type 0
AllWritten s [] = Unit {0}
AllWritten s (x ∷ xs) = Written s x × AllWritten s xs

-- a rule as the reader gives it, with so many variables
pub record RuleWritten (r : Rule) (l : ℕ) : Type 0 where
  pub left : Lefts 0 (r.left ∷ []) l
  pub node : is_node r.left ≡ true
  pub conds : AllWritten (scope l 0) r.conds
  pub right : Rights (scope l (first_in_right r.left)) (r.right ∷ [])

-- ---- first bytes
pub opens_itself : (t : List ℕ) → Opens t → unblanked t ≡ t
opens_itself t (opens c r b e) = idle c r b

left_opens : (k l : ℕ) (p : Pattern) (t : List ℕ) → Lefts k (p ∷ []) l → Opens (pattern_text p ++ t)
left_opens k l p t (any_left j i qs h) = any_opens t
left_opens k l p t (var_left j i z v qs h g) = var_opens v t
left_opens k l p t (node_left j k1 k2 k3 k4 i z name o ty int aux args qs h w g f m d c) = tree_opens name o ty int aux args t

right_opens : (s : Variables) (b : Build) (t : List ℕ) → Rights s (b ∷ []) → Opens (build_text b ++ t)
right_opens s b t (var_right i cs w h) = named_opens i t
right_opens s b t (node_right o ty int aux args cs w h g f d r) = made_opens o ty int aux args t

right_solid : (s : Variables) (b : Build) → Rights s (b ∷ []) → unblanked (32 ∷ build_text b) ≡ build_text b ++ []
right_solid s b w =
    let e = append-nil (build_text b) in
    ap (λ t. unblanked (32 ∷ t)) (sym e) ∙ opens_solid (build_text b ++ []) (right_opens s b [] w)

no_word_left : begins_word [] ≡ false
unfolding begins_word
no_word_left = refl

nothing_left : is_done [] ≡ true
unfolding unblanked
nothing_left = refl

no_names : [] ≡ printed_names 0
unfolding printed_names numbers_from
no_names = refl

-- ---- conditions
operand_blank : (s : Variables) (m : ℕ) (t : List ℕ) → operand_at s m (32 ∷ t) ≡ operand_at s m t
unfolding operand_at
operand_blank s zero t = refl
operand_blank s (suc m) t = ap (operand_in s (operand_at s m)) (unblanked_blank t)

expr_blank : (s : Variables) (m : ℕ) (t : List ℕ) → operand_at s m (32 ∷ t) ≡ operand_at s m t → expr_at s m (32 ∷ t) ≡ expr_at s m t
unfolding expr_at chained
expr_blank s m t e =
    let third = λ (o : Option (Expr × List ℕ)). o >>= λ x. chain (operator_at level.Comparison) (chained (operator_at level.Sum) (chained (operator_at level.Product) (operand_at s m))) (length x.1) x.0 x.1 in
    let second = λ (o : Option (Expr × List ℕ)). o >>= λ x. chain (operator_at level.Sum) (chained (operator_at level.Product) (operand_at s m)) (length x.1) x.0 x.1 in
    let first = λ (o : Option (Expr × List ℕ)). o >>= λ x. chain (operator_at level.Product) (operand_at s m) (length x.1) x.0 x.1 in
    ap (λ o. third (second (first o))) e

-- what stands behind the conditions, and behind each of them
abbrev arrow : List ℕ → List ℕ
arrow t = codes " => " ++ t

arrow_ends : (t : List ℕ) → Ends (arrow t)
unfolding begins_word mark_at unblanked after operator_at symbol_at and_at first_of products sums comparisons symbol is_word_byte
arrow_ends t = record { stops = record { word = refl; dot = refl; bracket = refl }; product = refl; sum = refl; comparison = refl }

and_ends : (t : List ℕ) → Ends (codes " && " ++ t)
unfolding begins_word mark_at unblanked after operator_at symbol_at and_at first_of products sums comparisons symbol is_word_byte
and_ends t = record { stops = record { word = refl; dot = refl; bracket = refl }; product = refl; sum = refl; comparison = refl }

conditions_end : (xs : List Expr) (t : List ℕ) → Ends (conditions_text xs ++ arrow t)
unfolding conditions_text
conditions_end [] t = arrow_ends t
conditions_end (x ∷ xs) t = and_ends ((expr_text x ++ conditions_text xs) ++ arrow t)

conditions_close : (xs : List Expr) (t : List ℕ) → Closes (conditions_text xs ++ arrow t)
unfolding conditions_text
conditions_close [] t = by_blank 61 _ refl refl
conditions_close (x ∷ xs) t = by_blank 38 _ refl refl

and_mark : (t : List ℕ) → mark_at (codes "&&") (codes " && " ++ t) ≡ Some (32 ∷ t)
unfolding mark_at unblanked after
and_mark t = refl

no_and : (t : List ℕ) → mark_at (codes "&&") (arrow t) ≡ None
unfolding mark_at unblanked after
no_and t = refl

arrow_mark : (t : List ℕ) → mark_at (codes "=>") (arrow t) ≡ Some (32 ∷ t)
unfolding mark_at unblanked after
arrow_mark t = refl

abbrev after_and : Read Expr → ℕ → List ℕ → Option (List ℕ) → Option (List Expr × List ℕ)
after_and read n text o = where_marked o (λ r. read r >>= λ x. onto x.0 (conditions read n x.1)) (Some ([], text))

no_conditions : (read : Read Expr) (n : ℕ) (t : List ℕ) → conditions read n (arrow t) ≡ Some ([], arrow t)
unfolding conditions
no_conditions read zero t = refl
no_conditions read (suc n) t = ap (after_and read n (arrow t)) (no_and t)

one_condition : (read : Read Expr) (n : ℕ) (text r t rest : List ℕ) (x : Expr) (xs : List Expr) → mark_at (codes "&&") text ≡ Some r → read r ≡ Some (x, t) → conditions read n t ≡ Some (xs, rest) → conditions read (suc n) text ≡ Some (x ∷ xs, rest)
unfolding conditions
one_condition read n text r t rest x xs e h g =
    ap (after_and read n text) e
    ∙ ap (λ o. o >>= λ y. onto y.0 (conditions read n y.1)) h
    ∙ ap (λ o. onto x o) g

long_condition : (a b : List ℕ) (m : ℕ) → length ((codes " && " ++ a) ++ b) ≤ m → (length a + 2 ≤ m) × (length b ≤ m)
long_condition a b m h = let u : 4 + length a + length b ≤ m = simp (length-append) at h in (omega arith, omega arith)

pub conditions_back : (s : Variables) (xs : List Expr) → AllWritten s xs → (m n : ℕ) → length (conditions_text xs) ≤ m → length xs ≤ n → (t : List ℕ) → conditions (expr_at s m) n (conditions_text xs ++ arrow t) ≡ Some (xs, arrow t)
unfolding conditions_text
conditions_back s [] w m n l few t = no_conditions (expr_at s m) n t
conditions_back s (x ∷ xs) w m zero l few t = absurd (omega arith)
conditions_back s (x ∷ xs) w m (suc n) l few t =
    let rest = conditions_text xs ++ arrow t in
    let q = long_condition (expr_text x) (conditions_text xs) m l in
    let i = inner_short x in
    let a : ((codes " && " ++ expr_text x) ++ conditions_text xs) ++ arrow t ≡ codes " && " ++ (expr_text x ++ rest) =
    append_assoc (codes " && " ++ expr_text x) (conditions_text xs) (arrow t) ∙ append_assoc (codes " && ") (expr_text x) rest in
    ap (conditions (expr_at s m) (suc n)) a
    ∙ one_condition (expr_at s m) n (codes " && " ++ (expr_text x ++ rest)) (32 ∷ (expr_text x ++ rest)) rest (arrow t) x xs (and_mark (expr_text x ++ rest))
    (expr_blank s m (expr_text x ++ rest) (operand_blank s m (expr_text x ++ rest)) ∙ expr_back s x w.0 m rest (omega (arith, q.0)) (conditions_end xs t))
    (conditions_back s xs w.1 m n (omega (arith, q.1)) (omega arith) t)

-- ---- the right tree
right_back : (s : Variables) (b : Build) (m : ℕ) → Rights s (b ∷ []) → length (builds_text (b ∷ [])) ≤ m → right_at s m (arrow (build_text b)) ≡ Some b
unfolding right_at
right_back s b m w l =
    ap (λ o. o >>= λ r. build_at s m r >>= λ x. if is_done x.1 then Some x.0 else None) (arrow_mark (build_text b))
    ∙ ap (λ o. o >>= λ x. if is_done x.1 then Some x.0 else None) (right_alone s b w m l (32 ∷ build_text b) [] (right_solid s b w) no_word_left)
    ∙ ap (λ d. if d then Some b else None) nothing_left

-- ---- the whole rule
left_back : (p : Pattern) (l m : ℕ) (t : List ℕ) → Lefts 0 (p ∷ []) l → is_node p ≡ true → l < 2 ^ 64 → length (patterns_text (p ∷ [])) ≤ m → Closes t → left_at m [] (pattern_text p ++ t) ≡ Some (p, printed_names l, t)
unfolding left_at
left_back p l m t w n b long c =
    ap (λ o. o >>= λ q. if is_node q.0 then Some q else None) (ap (λ names. pattern_at m names (pattern_text p ++ t)) no_names ∙ left_alone 0 l p w b m long (pattern_text p ++ t) t (opens_itself (pattern_text p ++ t) (left_opens 0 l p t w)) c)
    ∙ ap (λ d. if d then Some (p, printed_names l, t) else None) n

pub row_of_one : (p : Pattern) → length (patterns_text (p ∷ [])) ≡ 1 + length (pattern_text p)
unfolding patterns_text
row_of_one p = let e : length ((32 ∷ pattern_text p) ++ []) ≡ length (32 ∷ pattern_text p) = ap length (append-nil (32 ∷ pattern_text p)) in omega (arith, e)

row_of_one_build : (b : Build) → length (builds_text (b ∷ [])) ≡ 1 + length (build_text b)
unfolding builds_text
row_of_one_build b = let e : length ((32 ∷ build_text b) ++ []) ≡ length (32 ∷ build_text b) = ap length (append-nil (32 ∷ build_text b)) in omega (arith, e)

conditions_long : (xs : List Expr) → length xs ≤ length (conditions_text xs)
unfolding conditions_text
conditions_long [] = omega arith
conditions_long (x ∷ xs) = let h = conditions_long xs in let e = length-append (codes " && " ++ expr_text x) (conditions_text xs) in let v = length-append (codes " && ") (expr_text x) in omega arith

pub written_back : (r : Rule) (l : ℕ) → RuleWritten r l → l < 2 ^ 64 → written_at (body r) ≡ Some r
unfolding written_at body
written_back r l w b =
    let t = conditions_text r.conds ++ arrow (build_text r.right) in
    let text = pattern_text r.left ++ t in
    let m = length text in
    let e1 = length-append (pattern_text r.left) t in
    let e2 = length-append (conditions_text r.conds) (arrow (build_text r.right)) in
    let e3 : length (arrow (build_text r.right)) ≡ 4 + length (build_text r.right) = length-append (codes " => ") (build_text r.right) in
    let o1 = row_of_one r.left in
    let o2 = row_of_one_build r.right in
    let o3 = conditions_long r.conds in
    let all = scope l 0 in
    let inner = scope l (first_in_right r.left) in
    ap (λ o. o >>= λ p. conditions (expr_at (record { names = p.1; first = 0 }) m) (length p.2) p.2 >>= λ c. right_at (record { names = p.1; first = first_in_right p.0 }) m c.1 >>= λ x. Some (record { left = p.0; conds = c.0; right = x }))
    (left_back r.left l m t w.left w.node b (omega arith) (conditions_close r.conds (build_text r.right)))
    ∙ ap (λ o. o >>= λ c. right_at inner m c.1 >>= λ x. Some (record { left = r.left; conds = c.0; right = x })) (conditions_back all r.conds w.conds m (length t) (omega arith) (omega arith) (build_text r.right))
    ∙ ap (λ o. o >>= λ x. Some (record { left = r.left; conds = r.conds; right = x })) (right_back inner r.right m w.right (omega arith))

-- ---- no rule that is printed replaces an op alone
aux_no_dots : (o : Option ℕ) (t : List ℕ) → mark_at (codes "...") t ≡ None → mark_at (codes "...") (aux_text o ++ t) ≡ None
unfolding mark_at unblanked after
aux_no_dots None t h = h
aux_no_dots (Some i) t h = refl

int_no_dots : (o : Option IntPart) (t : List ℕ) → mark_at (codes "...") t ≡ None → mark_at (codes "...") (int_part_text o ++ t) ≡ None
unfolding mark_at unblanked after
int_no_dots None t h = h
int_no_dots (Some (int_part.Number z)) t h = refl
int_no_dots (Some (int_part.Var i)) t h = refl

type_no_dots : (o : Option ℕ) (t : List ℕ) → mark_at (codes "...") t ≡ None → mark_at (codes "...") (type_variable_text o ++ t) ≡ None
unfolding mark_at unblanked after
type_no_dots None t h = h
type_no_dots (Some i) t h = refl

row_no_dots : (k l : ℕ) (ps : List Pattern) (rest : List ℕ) → Lefts k ps l → mark_at (codes "...") (patterns_text ps ++ (41 ∷ rest)) ≡ None
unfolding opened patterns_text front_text variable mark_at unblanked after
row_no_dots k l ps rest (no_left j) = refl
row_no_dots k l ps rest (any_left j m qs h) = refl
row_no_dots k l ps rest (var_left j m n i qs h g) = refl
row_no_dots k l ps rest (node_left j k1 k2 k3 k4 m n None o ty int aux args qs h w g f e d c) = refl
row_no_dots k l ps rest (node_left j k1 k2 k3 k4 m n (Some i) o ty int aux args qs h w g f e d c) = refl

not_whole_op : (text inside v : List ℕ) (o : Op) → mark_at (codes "(") text ≡ Some inside → op_at inside ≡ Some (o, v) → mark_at (codes "...") v ≡ None → whole_op_at text ≡ None
unfolding whole_op_at
not_whole_op text inside v o e h g =
    ap (λ q. q >>= λ a. op_at a >>= λ p. mark_at (codes "...") p.1 >>= λ b. mark_at (codes ")") b >>= λ r. Some (p.0, r)) e
    ∙ ap (λ q. q >>= λ p. mark_at (codes "...") p.1 >>= λ b. mark_at (codes ")") b >>= λ r. Some (p.0, r)) h
    ∙ ap (λ q. q >>= λ b. mark_at (codes ")") b >>= λ r. Some (o, r)) g

no_bracket_op : (text : List ℕ) → mark_at (codes "(") text ≡ None → whole_op_at text ≡ None
unfolding whole_op_at
no_bracket_op text e = ap (λ q. q >>= λ a. op_at a >>= λ p. mark_at (codes "...") p.1 >>= λ b. mark_at (codes ")") b >>= λ r. Some (p.0, r)) e

not_whole : (text : List ℕ) → whole_op_at text ≡ None → whole_at text ≡ None
unfolding whole_at
not_whole text e = ap (λ o. o >>= λ from. mark_at (codes "=>") from.1 >>= λ a. whole_op_at a >>= λ to. if is_done to.1 then Some (from.0, to.0) else None) e

bracket_there : (t : List ℕ) → mark_at (codes "(") (40 ∷ t) ≡ Some t
unfolding mark_at unblanked after
bracket_there t = refl

no_bracket_there : (i : ℕ) (t : List ℕ) → mark_at (codes "(") (variable i ++ t) ≡ None
unfolding variable mark_at unblanked after
no_bracket_there i t = refl

tree_not_whole : (name : Option ℕ) (o : Op) (ty : Option ℕ) (int : Option IntPart) (aux : Option ℕ) (args : List Pattern) (k l : ℕ) (t : List ℕ) → OpWritten o → Lefts k args l → whole_op_at (pattern_text (tree name o ty int aux args) ++ t) ≡ None
tree_not_whole None o ty int aux args k l t w h =
    let a = patterns_text args ++ (41 ∷ t) in
    let x = aux_text aux ++ a in
    let i = int_part_text int ++ x in
    let v = type_variable_text ty ++ i in
    let tail = row_tail k l args t h in
    ap whole_op_at (ap (λ u. u ++ t) (text_of_node None o ty int aux args) ∙ tree_around [] (front_text o ty int aux) (patterns_text args) t ∙ front_around o ty int aux a)
    ∙ not_whole_op (40 ∷ (name_of o ++ v)) (name_of o ++ v) v o (bracket_there (name_of o ++ v)) (op_back o w v (type_no_word ty i (int_no_word int x (aux_no_word aux a tail)))) (type_no_dots ty i (int_no_dots int x (aux_no_dots aux a (row_no_dots k l args t h))))
tree_not_whole (Some n) o ty int aux args k l t w h =
    let rest = codes ":" ++ ((front_text o ty int aux ++ (patterns_text args ++ codes ")")) ++ t) in
    ap whole_op_at (ap (λ u. u ++ t) (text_of_node (Some n) o ty int aux args) ∙ append_assoc (variable n ++ codes ":") (front_text o ty int aux ++ (patterns_text args ++ codes ")")) t ∙ append_assoc (variable n) (codes ":") ((front_text o ty int aux ++ (patterns_text args ++ codes ")")) ++ t))
    ∙ no_bracket_op (variable n ++ rest) (no_bracket_there n rest)

left_not_whole : (k l : ℕ) (p : Pattern) (t : List ℕ) → Lefts k (p ∷ []) l → is_node p ≡ true → whole_op_at (pattern_text p ++ t) ≡ None
unfolding opened
left_not_whole k l p t (any_left j i qs h) n = absurd (let e : false ≡ true = n in cc)
left_not_whole k l p t (var_left j i z v qs h g) n = absurd (let e : false ≡ true = n in cc)
left_not_whole k l p t (node_left j k1 k2 k3 k4 i z name o ty int aux args qs h w g f m d c) n = tree_not_whole name o ty int aux args k4 i t w d

pub rule_back : (r : Rule) (l : ℕ) → RuleWritten r l → l < 2 ^ 64 → rule_at (body r) ≡ Some r
unfolding rule_at body
rule_back r l w b = ap (λ o. option_map_or (λ p. Some (whole_rule p.0 p.1)) o (written_at (body r))) (not_whole (body r) (no_op_alone w)) ∙ written_back r l w b
  where
    no_op_alone : RuleWritten r l → whole_op_at (body r) ≡ None
    no_op_alone v = left_not_whole 0 l r.left (conditions_text r.conds ++ (codes " => " ++ build_text r.right)) v.left v.node
