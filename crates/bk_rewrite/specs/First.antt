-- The first match at a value: of the first rule of a list that matches there, in its first order of arguments.
use Rattle.std.specs.Prelude.{◌≡◌, ℕ, ◌<◌, ◌≤◌, max, Bool, true, false, List, ◌∷◌, Option, Some, None, slice_get}
use Rattle.bk_ops.specs.declared.types.Target.{Target}
use Rattle.bk_func.specs.Records.{FuncRecord}
use Rattle.bk_rule.specs.declared.trees.Bound.{Bound}
use Rattle.bk_rule.specs.declared.trees.IntPart.{IntPart}
use Rattle.bk_rule.specs.declared.trees.IntPart.TheVariants as part
use Rattle.bk_rule.specs.declared.trees.Pattern.{Pattern, Row_of-Pattern, end_of-Pattern, more_of-Pattern}
use Rattle.bk_rule.specs.declared.trees.Pattern as pattern
use Rattle.bk_rule.specs.declared.trees.Rule.{Rule}
use Rattle.bk_rule.specs.Match.{past, past_int, variables, IsMatch}

-- ---- variables that are numbered in the order in which they come
-- the variable comes next, or came before: those below n did
abbrev pub IsNext : ℕ → Option ℕ → Type 0
IsNext n None = Unit {0}
IsNext n (Some i) = i ≤ n

abbrev pub IsNextInt : ℕ → Option IntPart → Type 0
IsNextInt n None = Unit {0}
IsNextInt n (Some (part.Number k)) = Unit {0}
IsNextInt n (Some (part.Var i)) = i ≤ n

-- the four variables of a node
abbrev pub AreNext : ℕ → Option ℕ → Option ℕ → Option IntPart → Option ℕ → Type 0
AreNext n name ty int x =
    IsNext n name × IsNext (max n (past name)) ty × IsNextInt (max (max n (past name)) (past ty)) int ×
    IsNext (max (max (max n (past name)) (past ty)) (past_int int)) x

abbrev mutual
  -- each variable of the tree comes next, or came before
  pub IsNumbered : ℕ → Pattern → Type 0
  IsNumbered n pattern.Any = Unit {0}
  IsNumbered n (pattern.Var i) = i ≤ n
  IsNumbered n (pattern.Node' name o ty int x shape ps) =
      AreNext n name ty int x × AreNumbered (max (max (max (max n (past name)) (past ty)) (past_int int)) (past x)) ps

  pub AreNumbered : ℕ → {m : _} → Row_of-Pattern m → Type 0
  AreNumbered n end_of-Pattern = Unit {0}
  AreNumbered n (more_of-Pattern p ps) = IsNumbered n p × AreNumbered (max n (variables p)) ps

-- ---- orders of arguments
-- of two lists the one that is false first stands first
abbrev pub Before : List Bool → List Bool → Type 0
Before (false ∷ cs) (true ∷ ds) = Unit {0}
Before (false ∷ cs) (false ∷ ds) = Before cs ds
Before (true ∷ cs) (true ∷ ds) = Before cs ds
Before cs ds = ⊥

-- ---- the first match
-- the rule matches under no bindings and in no orders
abbrev pub NeverMatches : Target → FuncRecord → Rule → ℕ → Type 0
NeverMatches t f r id = (bs : List Bound) (cs : List Bool) → IsMatch t f r bs id cs → ⊥

-- The rule at this place matches under the bindings in these orders, and not in orders that stand before them; nor does a rule
-- before it. Of the last two only rules are spoken of whose variables are numbered in the order in which they come.
pub record IsFirst (t : Target) (f : FuncRecord) (rules : List Rule) (id place : ℕ) (bs : List Bound) (cs : List Bool) : Type 0 where
  pub rule : Rule
  pub stands : slice_get rules place ≡ Some rule
  pub matches : IsMatch t f rule bs id cs
  pub in_order : IsNumbered 0 rule.left → (others : List Bound) (ds : List Bool) → Before ds cs → IsMatch t f rule others id ds → ⊥
  pub before : (k : ℕ) (r : Rule) → k < place → slice_get rules k ≡ Some r → IsNumbered 0 r.left → NeverMatches t f r id

-- no rule of the list matches
abbrev pub NoneMatches : Target → FuncRecord → List Rule → ℕ → Type 0
NoneMatches t f rules id = (k : ℕ) (r : Rule) → slice_get rules k ≡ Some r → IsNumbered 0 r.left → NeverMatches t f r id
