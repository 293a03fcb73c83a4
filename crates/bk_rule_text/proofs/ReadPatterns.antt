-- What the reader gives of left trees.
use Rattle.std.proofs.Common.{◌≡◌, ◌⊎◌, inl, inr, ℕ, zero, suc, ◌<◌, List, [], ◌∷◌, ◌++◌, length, ap, ◌∙◌, sym, refl, subst, arith, true, false, Option, Some, None, codes}
use Rattle.std.specs.Prelude.{if◌then◌else◌}
use Rattle.std.specs.List.{list_any, position_or_len, AllByRecursion}
use Rattle.std.specs.Str.{bytes_eq}
use Rattle.std.proofs.lemmas.List.{length-append}
use Rattle.bk_ops.specs.declared.table.Op.{Op}
use Rattle.bk_ops.specs.Names.{name_of, spelled, digits}
use Rattle.bk_ops.specs.Reading.{read as op_named}
use Rattle.bk_ops.specs.Table as table
use Rattle.bk_ops.specs.Table.{row, is_op}
use Rattle.bk_ops.proofs.Reading.{read_name, name_read}
use Rattle.bk_rule.specs.declared.trees.IntPart.{IntPart}
use Rattle.bk_rule.specs.declared.trees.IntPart.TheVariants as part
use Rattle.bk_rule.specs.declared.trees.Pattern.{Pattern}
use Rattle.bk_rule.specs.Trees.{any, var}
use Rattle.bk_rule_text.specs.declared.read.pattern.Front.{Front}
use Rattle.bk_rule_text.specs.Front.{◌>>=◌, unblanked, mark_at, closed, where_marked}
use Rattle.bk_rule_text.specs.Names.{numbered}
use Rattle.bk_rule_text.specs.Numbers.{begins_number, number_at}
use Rattle.bk_rule_text.specs.Words.{is_word_byte, run_at, word_at, begins_name, name_at, variable_at, any_at}
use Rattle.bk_rule_text.specs.Patterns.{Numbers, no_op, or_no_op, op_of, op_at, with_number, marked_at, int_at, int_part_at, front_at, in_front, patterns_at, node_at, named_node_at, variable_or_node_at, pattern_in, pattern_at}
use Rattle.bk_rule_text.proofs.Inverse.{Was, none_is_some, same, steps, marked, tested_by, before_mark}
use Rattle.bk_rule_text.proofs.PrintedPatterns.{OpWritten, Next, Nexts, NextInt, any_place, tree, Lefts, no_left, any_left, var_left, node_left, lefts_join}
use Rattle.bk_rule_text.proofs.ReadExprs.{number_small}
use Rattle.bk_rule_text.proofs.Runs.{front_passes}

-- ---- ops
no_op_named : op_of (name_of no_op) ≡ no_op
unfolding op_of is_op row table.entry
no_op_named = ap or_no_op (read_name (name_of no_op) no_op (refl, refl))

no_op_words : AllByRecursion (λ c. is_word_byte c ≡ true) (name_of no_op)
unfolding name_of spelled row is_op digits is_word_byte table.entry
no_op_words = (refl, (refl, (refl, (refl, tt))))

no_op_begins : begins_name (name_of no_op) ≡ true
unfolding name_of spelled row is_op digits begins_name table.entry
no_op_begins = refl

pub no_op_written : OpWritten no_op
no_op_written = record { back = no_op_named; words = no_op_words; begins = no_op_begins }

pub name_words : (text name rest : List ℕ) → name_at text ≡ Some (name, rest) → AllByRecursion (λ c. is_word_byte c ≡ true) name × (begins_name name ≡ true)
unfolding name_at word_at run_at
name_words text name rest e = by (tested_by (begins_name (word_at text).0) (Some (word_at text)) None (Some (name, rest)) e)
  where
    by : ((begins_name (word_at text).0 ≡ true) × Was (Some (word_at text)) name rest) ⊎ ((begins_name (word_at text).0 ≡ false) × Was None name rest) → AllByRecursion (λ c. is_word_byte c ≡ true) name × (begins_name name ≡ true)
    by (inl a) =
        let q : (word_at text).0 ≡ name = ap (λ p. p.0) (same (word_at text) (name, rest) a.1) in
        (subst (λ (t : List ℕ). AllByRecursion (λ c. is_word_byte c ≡ true) t) q (front_passes is_word_byte (unblanked text)), sym (ap begins_name q) ∙ a.0)
    by (inr a) = none_is_some (name, rest) a.1

op_known : (name : List ℕ) (o : Op) → AllByRecursion (λ c. is_word_byte c ≡ true) name → begins_name name ≡ true → op_named name ≡ Some o → OpWritten o
unfolding op_of
op_known name o w b e =
    let h : name_of o ≡ name = (name_read name o e).1 in
    record {
      back = ap or_no_op (ap op_named h ∙ e);
      words = subst (λ (t : List ℕ). AllByRecursion (λ c. is_word_byte c ≡ true) t) (sym h) w;
      begins = ap begins_name h ∙ b;
    }

op_spelt : (name : List ℕ) (o : Option Op) → AllByRecursion (λ c. is_word_byte c ≡ true) name → begins_name name ≡ true → op_named name ≡ o → OpWritten (or_no_op o)
op_spelt name None w b e = no_op_written
op_spelt name (Some o) w b e = op_known name o w b e

pub op_gives : (text rest : List ℕ) (o : Op) → op_at text ≡ Some (o, rest) → OpWritten o
unfolding op_at op_of
op_gives text rest o e =
    let a = steps (name_at text) (λ n. Some (op_of n.0, n.1)) (o, rest) e in
    let w = name_words text a.0.0 a.0.1 a.1 in
    subst OpWritten (ap (λ p. p.0) (same (op_of a.0.0, a.0.1) (o, rest) a.2)) (op_spelt a.0.0 (op_named a.0.0) w.0 w.1 refl)

-- ---- variables
next_given : (names : List (List ℕ)) (name : List ℕ) → Next (length names) (numbered names name).0 (length (numbered names name).1)
next_given names name = by (any_place (bytes_eq name) names)
  where
    by : ((list_any (bytes_eq name) names ≡ true) × (position_or_len (bytes_eq name) names < length names)) ⊎ ((list_any (bytes_eq name) names ≡ false) × (position_or_len (bytes_eq name) names ≡ length names)) → Next (length names) (numbered names name).0 (length (numbered names name).1)
    by (inl a) = inl (a.1, ap (λ b. length (if b then names else names ++ name ∷ [])) a.0)
    by (inr a) = inr (a.1, ap (λ b. length (if b then names else names ++ name ∷ [])) a.0 ∙ length-append names (name ∷ []) ∙ (omega arith))

-- what a part of a tree was read as, with the names behind it
abbrev Is : {A : Type 0} → Option (A × List (List ℕ) × List ℕ) → A → List (List ℕ) → List ℕ → Type 0
Is o x names rest = o ≡ Some (x, names, rest)

part_gives : (opening closing : List ℕ) (names more : List (List ℕ)) (text rest : List ℕ) (o : Option ℕ) → marked_at opening closing names text ≡ Some (o, more, rest) → Nexts (length names) o (length more)
unfolding marked_at
part_gives opening closing names more text rest o e = by (marked (mark_at opening text) (λ r. closed closing variable_at r >>= λ n. Some (with_number Some names n)) (Some (None, names, text)) (Some (o, more, rest)) e)
  where
    by : ((r : List ℕ) × (mark_at opening text ≡ Some r) × Is (closed closing variable_at r >>= λ n. Some (with_number Some names n)) o more rest) ⊎ ((mark_at opening text ≡ None) × Is (Some (None, names, text)) o more rest) → Nexts (length names) o (length more)
    by (inl a) =
        let b = steps (closed closing variable_at a.0) (λ n. Some (with_number Some names n)) (o, more, rest) a.2 in
        let q = same (with_number Some names b.0) (o, more, rest) b.2 in
        subst (λ (p : Option ℕ × List (List ℕ) × List ℕ). Nexts (length names) p.0 (length p.1)) q (next_given names b.0.0)
    by (inr a) = subst (λ (p : Option ℕ × List (List ℕ) × List ℕ). Nexts (length names) p.0 (length p.1)) (same (None, names, text) (o, more, rest) a.1) refl

int_gives : (names more : List (List ℕ)) (text rest : List ℕ) (o : Option IntPart) → int_at names text ≡ Some (o, more, rest) → NextInt (length names) o (length more)
unfolding int_at
int_gives names more text rest o e =
    by
    (
    tested_by (begins_number text) (closed (codes "]") number_at text >>= λ n. Some (Some (part.Number n.0), names, n.1)) (closed (codes "]") variable_at text >>= λ n. Some (with_number (λ i. Some (part.Var i)) names n)) (Some (o, more, rest)) e
    )
  where
    by : ((begins_number text ≡ true) × Is (closed (codes "]") number_at text >>= λ n. Some (Some (part.Number n.0), names, n.1)) o more rest) ⊎ ((begins_number text ≡ false) × Is (closed (codes "]") variable_at text >>= λ n. Some (with_number (λ i. Some (part.Var i)) names n)) o more rest)
        → NextInt (length names) o (length more)
    by (inl a) =
        let b = steps (closed (codes "]") number_at text) (λ n. Some (Some (part.Number n.0), names, n.1)) (o, more, rest) a.1 in
        let c = before_mark (codes "]") number_at text b.0.1 b.0.0 b.1 in
        subst (λ (p : Option IntPart × List (List ℕ) × List ℕ). NextInt (length names) p.0 (length p.1)) (same (Some (part.Number b.0.0), names, b.0.1) (o, more, rest) b.2) (number_small text c.0 b.0.0 c.1, refl)
    by (inr a) =
        let b = steps (closed (codes "]") variable_at text) (λ n. Some (with_number (λ i. Some (part.Var i)) names n)) (o, more, rest) a.1 in
        subst (λ (p : Option IntPart × List (List ℕ) × List ℕ). NextInt (length names) p.0 (length p.1)) (same (with_number (λ i. Some (part.Var i)) names b.0) (o, more, rest) b.2) (next_given names b.0.0)

int_part_gives : (names more : List (List ℕ)) (text rest : List ℕ) (o : Option IntPart) → int_part_at names text ≡ Some (o, more, rest) → NextInt (length names) o (length more)
unfolding int_part_at
int_part_gives names more text rest o e = by (marked (mark_at (codes "[") text) (λ r. int_at names (unblanked r)) (Some (None, names, text)) (Some (o, more, rest)) e)
  where
    by : ((r : List ℕ) × (mark_at (codes "[") text ≡ Some r) × Is (int_at names (unblanked r)) o more rest) ⊎ ((mark_at (codes "[") text ≡ None) × Is (Some (None, names, text)) o more rest) → NextInt (length names) o (length more)
    by (inl a) = int_gives names more (unblanked a.0) rest o a.2
    by (inr a) = subst (λ (p : Option IntPart × List (List ℕ) × List ℕ). NextInt (length names) p.0 (length p.1)) (same (None, names, text) (o, more, rest) a.1) refl

-- ---- nodes up to their arguments
record Fronted (k : ℕ) (f : Front) (l : ℕ) : Type 0 where
  op : OpWritten f.op
  typed : ℕ
  counted : ℕ
  ty : Nexts k f.ty typed
  int : NextInt typed f.int counted
  aux : Nexts counted f.aux l

front_gives : (names more : List (List ℕ)) (text rest : List ℕ) (f : Front) → front_at names text ≡ Some (f, more, rest) → Fronted (length names) f (length more)
unfolding front_at
front_gives names more text rest f e =
    let a = steps (op_at text) (λ o. marked_at (codes "<") (codes ">") names o.1 >>= λ t. int_part_at t.1 t.2 >>= λ i. marked_at (codes "{") (codes "}") i.1 i.2 >>= λ x. Some (record { op = o.0; ty = t.0; int = i.0; aux = x.0 }, x.1, x.2)) (f, more, rest) e in
    let o = a.0.0 in
    let b = steps (marked_at (codes "<") (codes ">") names a.0.1) (λ t. int_part_at t.1 t.2 >>= λ i. marked_at (codes "{") (codes "}") i.1 i.2 >>= λ x. Some (record { op = o; ty = t.0; int = i.0; aux = x.0 }, x.1, x.2)) (f, more, rest) a.2 in
    let t = b.0.0 in
    let c = steps (int_part_at b.0.1 b.0.2) (λ i. marked_at (codes "{") (codes "}") i.1 i.2 >>= λ x. Some (record { op = o; ty = t; int = i.0; aux = x.0 }, x.1, x.2)) (f, more, rest) b.2 in
    let i = c.0.0 in
    let d = steps (marked_at (codes "{") (codes "}") c.0.1 c.0.2) (λ x. Some (record { op = o; ty = t; int = i; aux = x.0 }, x.1, x.2)) (f, more, rest) c.2 in
    let q = same (record { op = o; ty = t; int = i; aux = d.0.0 }, d.0.1, d.0.2) (f, more, rest) d.2 in
    subst (λ (p : Front × List (List ℕ) × List ℕ). Fronted (length names) p.0 (length p.1)) q
    (record {
      op = op_gives text a.0.1 o a.1;
      typed = length b.0.1;
      counted = length c.0.1;
      ty = part_gives (codes "<") (codes ">") names b.0.1 a.0.1 b.0.2 t b.1;
      int = int_part_gives b.0.1 c.0.1 b.0.2 c.0.2 i c.1;
      aux = part_gives (codes "{") (codes "}") c.0.1 d.0.1 c.0.2 d.0.2 d.0.0 d.1;
    })

-- ---- trees
abbrev Gives : Numbers Pattern → Type 0
Gives read = (names more : List (List ℕ)) (text rest : List ℕ) (p : Pattern) → read names text ≡ Some (p, more, rest) → Lefts (length names) (p ∷ []) (length more)

in_front_gives : (x : Pattern) (o : Option (List Pattern × List (List ℕ) × List ℕ)) (ps : List Pattern) (names : List (List ℕ)) (rest : List ℕ) → in_front x o ≡ Some (ps, names, rest) → (qs : List Pattern) × (o ≡ Some (qs, names, rest)) × (ps ≡ x ∷ qs)
in_front_gives x None ps names rest e = none_is_some (ps, names, rest) e
in_front_gives x (Some m) ps names rest e =
    let q = same (x ∷ m.0, m.1, m.2) (ps, names, rest) e in
    (m.0, ap (λ p. Some (m.0, p.1, p.2)) q, sym (ap (λ p. p.0) q))

row_gives : (read : Numbers Pattern) → Gives read → (n : ℕ) (names more : List (List ℕ)) (text rest : List ℕ) (ps : List Pattern) → patterns_at read n names text ≡ Some (ps, more, rest) → Lefts (length names) ps (length more)
unfolding patterns_at
row_gives read g zero names more text rest ps e = none_is_some (ps, more, rest) e
row_gives read g (suc n) names more text rest ps e =
    by (marked (mark_at (codes ")") text) (λ r. Some ([], names, r)) (read names text >>= λ p. in_front p.0 (patterns_at read n p.1 p.2)) (Some (ps, more, rest)) e) (row_gives read g n)
  where
    by : ((r : List ℕ) × (mark_at (codes ")") text ≡ Some r) × Is (Some ([], names, r)) ps more rest) ⊎ ((mark_at (codes ")") text ≡ None) × Is (read names text >>= λ p. in_front p.0 (patterns_at read n p.1 p.2)) ps more rest)
        → ((names2 more2 : List (List ℕ)) (text2 rest2 : List ℕ) (ps2 : List Pattern) → patterns_at read n names2 text2 ≡ Some (ps2, more2, rest2) → Lefts (length names2) ps2 (length more2)) → Lefts (length names) ps (length more)
    by (inl a) on = subst (λ (p : List Pattern × List (List ℕ) × List ℕ). Lefts (length names) p.0 (length p.1)) (same ([], names, a.0) (ps, more, rest) a.2) (no_left (length names))
    by (inr a) on =
        let b = steps (read names text) (λ p. in_front p.0 (patterns_at read n p.1 p.2)) (ps, more, rest) a.1 in
        let c = in_front_gives b.0.0 (patterns_at read n b.0.1 b.0.2) ps more rest b.2 in
        subst (λ (qs : List Pattern). Lefts (length names) qs (length more)) (sym c.2)
        (lefts_join (length names) (length b.0.1) (length more) (b.0.0 ∷ []) c.0 (g names b.0.1 text b.0.2 b.0.0 b.1) (on b.0.1 more b.0.2 rest c.0 c.1))

node_gives : (read : Numbers Pattern) → Gives read → (name : Option ℕ) (k : ℕ) (names more : List (List ℕ)) (text rest : List ℕ) (p : Pattern) → Nexts k name (length names) → node_at read name names text ≡ Some (p, more, rest) → Lefts k (p ∷ []) (length more)
unfolding node_at
node_gives read g name k names more text rest p n e =
    let a = steps (front_at names text) (λ f. patterns_at read (length f.2) f.1 f.2 >>= λ ps. Some (tree name f.0.op f.0.ty f.0.int f.0.aux ps.0, ps.1, ps.2)) (p, more, rest) e in
    let f = a.0.0 in
    let b = steps (patterns_at read (length a.0.2) a.0.1 a.0.2) (λ ps. Some (tree name f.op f.ty f.int f.aux ps.0, ps.1, ps.2)) (p, more, rest) a.2 in
    let h = front_gives names a.0.1 text a.0.2 f a.1 in
    let r = row_gives read g (length a.0.2) a.0.1 b.0.1 a.0.2 b.0.2 b.0.0 b.1 in
    subst (λ (q : Pattern × List (List ℕ) × List ℕ). Lefts k (q.0 ∷ []) (length q.1)) (same (tree name f.op f.ty f.int f.aux b.0.0, b.0.1, b.0.2) (p, more, rest) b.2)
    (node_left k (length names) h.typed h.counted (length a.0.1) (length b.0.1) (length b.0.1) name f.op f.ty f.int f.aux b.0.0 [] n h.op h.ty h.int h.aux r (no_left (length b.0.1)))

variable_gives : (read : Numbers Pattern) → Gives read → (names more : List (List ℕ)) (text rest : List ℕ) (p : Pattern) → variable_or_node_at read names text ≡ Some (p, more, rest) → Lefts (length names) (p ∷ []) (length more)
unfolding variable_or_node_at named_node_at
variable_gives read g names more text rest p e =
    let a = steps (variable_at text) (λ n. where_marked (mark_at (codes ":") n.1) (named_node_at read (numbered names n.0).0 (numbered names n.0).1) (Some (with_number var names n))) (p, more, rest) e in
    by a.0 (marked (mark_at (codes ":") a.0.1) (named_node_at read (numbered names a.0.0).0 (numbered names a.0.0).1) (Some (with_number var names a.0)) (Some (p, more, rest)) a.2)
  where
    by : (n : List ℕ × List ℕ) → ((r : List ℕ) × (mark_at (codes ":") n.1 ≡ Some r) × Is (named_node_at read (numbered names n.0).0 (numbered names n.0).1 r) p more rest) ⊎ ((mark_at (codes ":") n.1 ≡ None) × Is (Some (with_number var names n)) p more rest) → Lefts (length names) (p ∷ []) (length more)
    by n (inl a) =
        let b = steps (mark_at (codes "(") a.0) (node_at read (Some (numbered names n.0).0) (numbered names n.0).1) (p, more, rest) a.2 in
        node_gives read g (Some (numbered names n.0).0) (length names) (numbered names n.0).1 more b.0 rest p (next_given names n.0) b.2
    by n (inr a) =
        subst (λ (q : Pattern × List (List ℕ) × List ℕ). Lefts (length names) (q.0 ∷ []) (length q.1)) (same (with_number var names n) (p, more, rest) a.1)
        (var_left (length names) (length (numbered names n.0).1) (length (numbered names n.0).1) (numbered names n.0).0 [] (next_given names n.0) (no_left (length (numbered names n.0).1)))

pattern_in_gives : (read : Numbers Pattern) → Gives read → Gives (pattern_in read)
unfolding pattern_in
pattern_in_gives read g names more text rest p e =
    one (marked (any_at text) (λ r. Some (any, names, r)) (where_marked (mark_at (codes "(") text) (node_at read None names) (variable_or_node_at read names text)) (Some (p, more, rest)) e)
  where
    two : ((r : List ℕ) × (mark_at (codes "(") text ≡ Some r) × Is (node_at read None names r) p more rest) ⊎ ((mark_at (codes "(") text ≡ None) × Is (variable_or_node_at read names text) p more rest) → Lefts (length names) (p ∷ []) (length more)
    two (inl a) = node_gives read g None (length names) names more a.0 rest p refl a.2
    two (inr a) = variable_gives read g names more text rest p a.1

    one : ((r : List ℕ) × (any_at text ≡ Some r) × Is (Some (any, names, r)) p more rest) ⊎ ((any_at text ≡ None) × Is (where_marked (mark_at (codes "(") text) (node_at read None names) (variable_or_node_at read names text)) p more rest) → Lefts (length names) (p ∷ []) (length more)
    one (inl a) = subst (λ (q : Pattern × List (List ℕ) × List ℕ). Lefts (length names) (q.0 ∷ []) (length q.1)) (same (any, names, a.0) (p, more, rest) a.2) (any_left (length names) (length names) [] (no_left (length names)))
    one (inr a) = two (marked (mark_at (codes "(") text) (node_at read None names) (variable_or_node_at read names text) (Some (p, more, rest)) a.1)

pub pattern_gives : (n : ℕ) → Gives (pattern_at n)
unfolding pattern_at
pattern_gives zero names more text rest p e = none_is_some (p, more, rest) e
pattern_gives (suc n) names more text rest p e = pattern_in_gives (pattern_at n) (pattern_gives n) names more text rest p e
