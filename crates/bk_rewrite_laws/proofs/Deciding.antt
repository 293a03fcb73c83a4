-- Whether the variables of a tree are numbered in the order in which they come, as a test.
use Rattle.std.proofs.Common.{◌≡◌, ℕ, zero, suc, ◌≤◌, max, refl, arith, Bool, true, false, List, [], ◌∷◌, Option, Some, None}
use Rattle.std.specs.Prelude.{nat_le, ◌&&◌}
use Rattle.std.proofs.lemmas.Bool.Decides.{nat_tests}
use Rattle.bk_rule.specs.declared.trees.IntPart.{IntPart}
use Rattle.bk_rule.specs.declared.trees.IntPart.TheVariants as part
use Rattle.bk_rule.specs.declared.trees.Pattern.{Pattern, Row_of-Pattern, end_of-Pattern, more_of-Pattern}
use Rattle.bk_rule.specs.declared.trees.Pattern as pattern
use Rattle.bk_rule.specs.declared.trees.Rule.{Rule}
use Rattle.bk_rule.specs.Match.{past, past_int, variables}
use Rattle.bk_rewrite.specs.First.{IsNext, IsNextInt, AreNext, IsNumbered, AreNumbered}
use Rattle.bk_rewrite_laws.specs.Numbered.{RulesNumbered}

abbrev next : ℕ → Option ℕ → Bool
next n None = true
next n (Some i) = nat_le i n

abbrev next_int : ℕ → Option IntPart → Bool
next_int n None = true
next_int n (Some (part.Number k)) = true
next_int n (Some (part.Var i)) = nat_le i n

abbrev all_next : ℕ → Option ℕ → Option ℕ → Option IntPart → Option ℕ → Bool
all_next n name ty int x =
    next n name && (next (max n (past name)) ty && (next_int (max (max n (past name)) (past ty)) int && next (max (max (max n (past name)) (past ty)) (past_int int)) x))

abbrev mutual
  numbered : ℕ → Pattern → Bool
  numbered n pattern.Any = true
  numbered n (pattern.Var i) = nat_le i n
  numbered n (pattern.Node' name o ty int x shape ps) =
      all_next n name ty int x && row_numbered (max (max (max (max n (past name)) (past ty)) (past_int int)) (past x)) ps

  row_numbered : ℕ → {m : _} → Row_of-Pattern m → Bool
  row_numbered n end_of-Pattern = true
  row_numbered n (more_of-Pattern p ps) = numbered n p && row_numbered (max n (variables p)) ps

abbrev pub all_numbered : List Rule → Bool
all_numbered [] = true
all_numbered (r ∷ rs) = numbered 0 r.left && all_numbered rs

both_true : (s t : Bool) → (s && t) ≡ true → (s ≡ true) × (t ≡ true)
both_true true t e = (refl, e)
both_true false t e = let x : false ≡ true = e in absurd cc

at_most : (i n : ℕ) → nat_le i n ≡ true → i ≤ n
at_most i n e = grind (arith, nat_tests)

is_next : (n : ℕ) (o : Option ℕ) → next n o ≡ true → IsNext n o
is_next n None e = tt
is_next n (Some i) e = at_most i n e

is_next_int : (n : ℕ) (o : Option IntPart) → next_int n o ≡ true → IsNextInt n o
is_next_int n None e = tt
is_next_int n (Some (part.Number k)) e = tt
is_next_int n (Some (part.Var i)) e = at_most i n e

are_next : (n : ℕ) (name ty : Option ℕ) (int : Option IntPart) (x : Option ℕ) → all_next n name ty int x ≡ true → AreNext n name ty int x
are_next n name ty int x e =
    let a = both_true (next n name) (next (max n (past name)) ty && (next_int (max (max n (past name)) (past ty)) int && next (max (max (max n (past name)) (past ty)) (past_int int)) x)) e in
    let b = both_true (next (max n (past name)) ty) (next_int (max (max n (past name)) (past ty)) int && next (max (max (max n (past name)) (past ty)) (past_int int)) x) a.1 in
    let c = both_true (next_int (max (max n (past name)) (past ty)) int) (next (max (max (max n (past name)) (past ty)) (past_int int)) x) b.1 in
    (is_next n name a.0, is_next (max n (past name)) ty b.0, is_next_int (max (max n (past name)) (past ty)) int c.0, is_next (max (max (max n (past name)) (past ty)) (past_int int)) x c.1)

mutual
  is_numbered : (n : ℕ) (p : Pattern) → numbered n p ≡ true → IsNumbered n p
  is_numbered n pattern.Any e = tt
  is_numbered n (pattern.Var i) e = at_most i n e
  is_numbered n (pattern.Node' name o ty int x shape ps) e =
      let a = both_true (all_next n name ty int x) (row_numbered (max (max (max (max n (past name)) (past ty)) (past_int int)) (past x)) ps) e in
      (are_next n name ty int x a.0, are_numbered (max (max (max (max n (past name)) (past ty)) (past_int int)) (past x)) ps a.1)

  are_numbered : (n : ℕ) {m : _} (ps : Row_of-Pattern m) → row_numbered n ps ≡ true → AreNumbered n ps
  are_numbered n end_of-Pattern e = tt
  are_numbered n (more_of-Pattern p ps) e =
      let a = both_true (numbered n p) (row_numbered (max n (variables p)) ps) e in
      (is_numbered n p a.0, are_numbered (max n (variables p)) ps a.1)

pub rules_numbered : (rules : List Rule) → all_numbered rules ≡ true → RulesNumbered rules
rules_numbered [] e k d l = absurd (omega (arith, l))
rules_numbered (r ∷ rs) e zero d l = is_numbered 0 r.left (both_true (numbered 0 r.left) (all_numbered rs) e).0
rules_numbered (r ∷ rs) e (suc k) d l = rules_numbered rs (both_true (numbered 0 r.left) (all_numbered rs) e).1 k d (omega (arith, l))
