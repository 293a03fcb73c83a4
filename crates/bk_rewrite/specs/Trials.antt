-- What a trial of a left tree shows.
use Rattle.std.specs.Prelude.{◌≡◌, ℕ, ◌+◌, ◌≤◌, max, Bool, List, [], ◌∷◌, ◌++◌, length, drop, Option, Some, slice_get}
use Rattle.bk_ops.specs.declared.types.Target.{Target}
use Rattle.bk_func.specs.Records.{ValueRecord, FuncRecord}
use Rattle.bk_rule.specs.declared.trees.Bound.{Bound}
use Rattle.bk_rule.specs.declared.trees.IntPart.{IntPart}
use Rattle.bk_rule.specs.declared.trees.Pattern.{Pattern}
use Rattle.bk_rule.specs.declared.trees.Rule.{Rule}
use Rattle.bk_rule.specs.Match.{NameMatches, TypeMatches, IntMatches, AuxMatches, past, past_int, Matches, IsNone, AtFirst, orders, variables, IsMatch}
use Rattle.bk_rewrite.specs.First.{IsNumbered, Before}

-- what the first bindings say, the second say too
abbrev pub Keeps : List Bound → List Bound → Type 0
Keeps t bs = (i : ℕ) (b : Bound) → slice_get t i ≡ Some b → slice_get bs i ≡ Some b

-- The bindings t were added to, which gave u, so that P holds of what keeps u; and what keeps t keeps u where P holds of it.
-- n is one more than the greatest variable of P.
pub record Binds (n : ℕ) (P : List Bound → Type 0) (t u : List Bound) : Type 0 where
  pub keeps : Keeps t u
  pub holds : (bs : List Bound) → Keeps u bs → P bs
  pub least : (bs : List Bound) → Keeps t bs → P bs → Keeps u bs
  pub variables : length u ≡ max (length t) n

-- P holds of nothing that keeps the bindings
abbrev pub Misses : (List Bound → Type 0) → List Bound → Type 0
Misses P t = (bs : List Bound) → Keeps t bs → P bs → ⊥

-- what the parts of a node ask
abbrev pub PartsMatch : List Bound → Option ℕ → Option ℕ → Option IntPart → Option ℕ → ValueRecord → Type 0
PartsMatch bs name ty int x v = NameMatches bs name v.id × TypeMatches bs ty v.ty × IntMatches bs int v.int × AuxMatches bs x v.aux

abbrev pub parts_past : Option ℕ → Option ℕ → Option IntPart → Option ℕ → ℕ
parts_past name ty int x = max (past name) (max (past ty) (max (past_int int) (past x)))

-- ---- trees in a list
abbrev pub sum_orders : List Pattern → ℕ
sum_orders [] = 0
sum_orders (p ∷ ps) = orders p + sum_orders ps

abbrev pub most_variables : List Pattern → ℕ
most_variables [] = 0
most_variables (p ∷ ps) = max (variables p) (most_variables ps)

abbrev pub PatternsMatch : FuncRecord → List Bound → List Pattern → List ℕ → List Bool → Type 0
PatternsMatch f bs [] ids cs = IsNone ids
PatternsMatch f bs (p ∷ ps) ids cs = AtFirst ids (λ id ids. Matches f bs p id cs × PatternsMatch f bs ps ids (drop (orders p) cs))

abbrev pub PatternsNumbered : ℕ → List Pattern → Type 0
PatternsNumbered n [] = Unit {0}
PatternsNumbered n (p ∷ ps) = IsNumbered n p × PatternsNumbered (max n (variables p)) ps

-- ---- orders that are chosen so far, and any further ones
-- a trial that took the chosen orders from the place `start` on, k of them, whatever further ones follow
pub record Stood (cs : List Bool) (n k : ℕ) (P : List Bound → List Bool → Type 0) (t u : List Bound) (start now : ℕ) : Type 0 where
  pub binds : (more : List Bool) → Binds n (λ bs. P bs (drop start (cs ++ more))) t u
  pub used : now ≡ start + k
  pub within : start ≤ length cs → now ≤ length cs

-- one that failed, whatever further ones follow
abbrev pub Failed : List Bool → (List Bound → List Bool → Type 0) → List Bound → ℕ → Type 0
Failed cs P t start = (more : List Bool) → Misses (λ bs. P bs (drop start (cs ++ more))) t

-- a trial of trees in a list that has come to the i-th of them
pub record Goes (f : FuncRecord) (cs : List Bool) (ps : List Pattern) (ids : List ℕ) (i : ℕ) (t u : List Bound) (start now : ℕ) : Type 0 where
  pub keeps : Keeps t u
  pub holds : (more : List Bool) (bs : List Bound) → Keeps u bs → PatternsMatch f bs (drop i ps) (drop i ids) (drop now (cs ++ more)) →
      PatternsMatch f bs ps ids (drop start (cs ++ more))
  pub least : (more : List Bool) (bs : List Bound) → Keeps t bs → PatternsMatch f bs ps ids (drop start (cs ++ more)) →
      Keeps u bs × PatternsMatch f bs (drop i ps) (drop i ids) (drop now (cs ++ more))
  pub variables : max (length u) (most_variables (drop i ps)) ≡ max (length t) (most_variables ps)
  pub used : now + sum_orders (drop i ps) ≡ start + sum_orders ps
  pub within : start ≤ length cs → now ≤ length cs
  pub numbered : PatternsNumbered (length t) ps → PatternsNumbered (length u) (drop i ps)

-- ---- the first orders that go on from some
-- the rule matches in orders that go on from `start`, and not in such that stand before them
pub record Chosen (t : Target) (f : FuncRecord) (r : Rule) (id : ℕ) (start : List Bool) (bs : List Bound) (cs : List Bool) : Type 0 where
  pub rest : List Bool
  pub is : cs ≡ start ++ rest
  pub matches : IsMatch t f r bs id cs
  pub in_order : IsNumbered 0 r.left → (others : List Bound) (ds : List Bool) → Before ds rest → IsMatch t f r others id (start ++ ds) → ⊥

-- the rule matches in no orders that go on from `start`
abbrev pub NoneChosen : Target → FuncRecord → Rule → ℕ → List Bool → Type 0
NoneChosen t f r id start = (bs : List Bound) (ds : List Bool) → IsMatch t f r bs id (start ++ ds) → ⊥
