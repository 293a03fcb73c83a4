-- Which values come right before which, by places.
use Rattle.std.specs.Prelude.{◌≡◌, ◌↔◌, ℕ, List, length, Option, Some}
use Rattle.std.specs.List.{Contains, slice_get}
use Rattle.bk_func.specs.Records.{FuncRecord}
use Rattle.bk_func.specs.Form.Text.{IsPhi}
use Rattle.bk_places.specs.Order.{HasRole}
use Rattle.bk_places.specs.declared.order.Lists.{Lists}
use Rattle.bk_places.specs.declared.role.Role.{Role}
use Rattle.bk_places.specs.declared.role.Role.TheVariants.{Check, Load, User}
use Rattle.bk_places.specs.Search.{IsEdge}
use Rattle.bk_form.specs.Chains.{IsStateAt}
use Rattle.bk_form.specs.Groups.{AreListed}
use Rattle.bk_form.specs.Places.{NodeRecord, nodes_of}

-- the value takes the one at the place, which stands in its block; a phi takes none
abbrev pub TakesTo : FuncRecord → NodeRecord → ℕ → Type 0
TakesTo f m q = (o : NodeRecord) × (slice_get (nodes_of f) q ≡ Some o) × (m.home ≡ o.home) × ¬ IsPhi m.value × Contains m.value.args o.value.id

-- edges from values to those that they take
pub record AreTakes (f : FuncRecord) (es : List (List ℕ)) : Type 0 where
  pub size : length es ≡ length (nodes_of f)
  pub edge : (p : ℕ) (m : NodeRecord) → slice_get (nodes_of f) p ≡ Some m → (q : ℕ) → IsEdge es p q ↔ TakesTo f m q

abbrev pub PlaysAt : Role → ℕ → NodeRecord → Type 0
PlaysAt r p m = HasRole r m.value

-- the value at the place is a state
abbrev pub IsNextAt : FuncRecord → ℕ → NodeRecord → Type 0
IsNextAt f p m = (i : ℕ) × IsStateAt f i p

-- the places of each group by what their values do
pub record AreLists (f : FuncRecord) (gs : List (Option ℕ)) (l : Lists) : Type 0 where
  pub checks : AreListed f gs (PlaysAt Check) l.checks
  pub loads : AreListed f gs (PlaysAt Load) l.loads
  pub users : AreListed f gs (PlaysAt User) l.users
  pub nexts : AreListed f gs (IsNextAt f) l.nexts
