-- Which values come right before which, by places.
use Rattle.std.specs.Prelude.{◌≡◌, ◌↔◌, ℕ, ◌<◌, true, List, [], length, Option, None, Some, slice_index, slice_index_or}
use Rattle.std.specs.List.{Contains, slice_get}
use Rattle.bk_func.specs.Records.{ValueRecord, BlockRecord}
use Rattle.bk_func.specs.Form.Text.{IsPhi}
use Rattle.bk_func.specs.Form.Before.{IsLoad, IsNilCheck}
use Rattle.bk_places.specs.declared.order.Lists.{Lists}
use Rattle.bk_places.specs.declared.role.Role.TheVariants.{User}
use Rattle.bk_places.specs.Search.{IsEdge, Leads}
use Rattle.bk_places.specs.Order.{HasRole}
use Rattle.bk_sched.specs.Order.{ComesBefore, is_state}

-- the value takes the one at the place, which stands in the block; a phi takes none
abbrev pub TakesTo : List ValueRecord → ValueRecord → ℕ → Type 0
TakesTo vs v q = (u : ValueRecord) × (slice_get vs q ≡ Some u) × ¬ IsPhi v × Contains v.args u.id

-- edges from values to those that they take
pub record AreTakes (vs : List ValueRecord) (es : List (List ℕ)) : Type 0 where
  pub size : length es ≡ length vs
  pub edge : (p : ℕ) (v : ValueRecord) → slice_get vs p ≡ Some v → (q : ℕ) → IsEdge es p q ↔ TakesTo vs v q

-- for each group its places of which the fact holds, in order
pub record AreListed (vs : List ValueRecord) (gs : List (Option ℕ)) (P : ValueRecord → Type 0) (es : List (List ℕ)) : Type 0 where
  pub each : (g p : ℕ) → Contains (slice_index_or es g []) p ↔ ((v : ValueRecord) × (slice_get vs p ≡ Some v) × (slice_index_or gs p None ≡ Some g) × P v)
  pub rising : (g j k : ℕ) → j < k → k < length (slice_index_or es g []) → slice_index (slice_index_or es g []) j < slice_index (slice_index_or es g []) k

-- the value gives a state of memory
abbrev pub IsNext : ValueRecord → Type 0
IsNext v = is_state v ≡ true

-- the places of each group by what their values do
pub record AreLists (vs : List ValueRecord) (gs : List (Option ℕ)) (l : Lists) : Type 0 where
  pub checks : AreListed vs gs IsNilCheck l.checks
  pub loads : AreListed vs gs IsLoad l.loads
  pub users : AreListed vs gs (HasRole User) l.users
  pub nexts : AreListed vs gs IsNext l.nexts

-- edges lead from the places of values to those of the values that they come before, and to no others
pub record IsOrder (b : BlockRecord) (es : List (List ℕ)) : Type 0 where
  pub size : length es ≡ length b.values
  pub within : (p q : ℕ) → IsEdge es p q → q < length b.values
  pub sound : (p q : ℕ) (u v : ValueRecord) → slice_get b.values p ≡ Some u → slice_get b.values q ≡ Some v → IsEdge es p q → ComesBefore b u v
  pub whole : (p q : ℕ) (u v : ValueRecord) → slice_get b.values p ≡ Some u → slice_get b.values q ≡ Some v → ComesBefore b u v → Leads es p q
