-- The states of memory that a block goes through, by the places of their values, and the order of its values.
use Rattle.std.specs.Prelude.{◌≡◌, ℕ, zero, suc, ◌+◌, ◌==◌, Bool, false, not, if◌then◌else◌, List, [], ◌∷◌, length, map, find, position, slice_get, Option, Some, None, unwrap_or, option_map, option_and_then}
use Rattle.std.specs.List.{filter_map, range_with_len, Contains}
use Rattle.std.specs.Ordering.{nat_cmp}
use Rattle.std.specs.BTreeMap.{get}
use Rattle.bk_func.specs.Records.{ValueRecord}
use Rattle.bk_func.specs.Numbers.{origin_of, memory_arg}
use Rattle.bk_func.specs.Effects.{is_phi, has_effect}
use Rattle.bk_mean.specs.declared.numbering.Numbering.{Numbering}
use Rattle.bk_mean.specs.Numbering.{root_in, local_in}
use Rattle.bk_mean.specs.Arranged.{Due, class_of, level_in, due_by, Filled}
use Rattle.bk_mean.specs.Dues.{taken_in, FallsBy}

-- the place of the state that a value names
abbrev pub state_place : Numbering → ValueRecord → Option ℕ
state_place n v = option_and_then (root_in n) (memory_arg (origin_of v.op.family) v)

-- the same of a value that does something at its state
abbrev pub acting_place : Numbering → ValueRecord → Option ℕ
acting_place n v = option_and_then (λ c. state_place n v) (class_of v)

-- a value of the block that has an effect stands at the place
abbrev pub gives_state : Option ValueRecord → Bool
gives_state None = false
gives_state (Some v) = has_effect v

abbrev pub is_given : ℕ → List ValueRecord → ℕ → Bool
is_given first vs p = gives_state (option_and_then (slice_get vs) (local_in first (length vs) p))

-- the state that the block begins with: the first that a value names and that no value of the block gives
abbrev pub beginning_of : Numbering → ℕ → List ValueRecord → Option ℕ
beginning_of n first vs = find (λ s. not (is_given first vs s)) (filter_map (acting_place n) vs)

-- the state that a memory value names; for others the place after all values
abbrev pub followed_by : Numbering → ValueRecord → ℕ
followed_by n v = if has_effect v then unwrap_or (state_place n v) (length n.roots.items) else length n.roots.items

-- the place of the first memory value at a state
abbrev pub next_place : Numbering → ℕ → List ValueRecord → ℕ → Option ℕ
next_place n first vs s = option_map (λ k. first + k) (position (λ v. followed_by n v == s) vs)

-- so many states, each followed by the next
abbrev pub walked : (ℕ → Option ℕ) → ℕ → Option ℕ → List ℕ
walked next zero o = []
walked next (suc k) None = []
walked next (suc k) (Some s) = s ∷ walked next k (next s)

-- the states of the block
abbrev pub states_of : Numbering → ℕ → List ValueRecord → List ℕ
states_of n first vs = walked (next_place n first vs) (length vs + 1) (beginning_of n first vs)

-- when the value at a place of the block is due
abbrev pub place_due : Numbering → ℕ → List ValueRecord → ℕ → ValueRecord → Option Due
place_due n first vs k v = due_by (class_of v) (level_in (states_of n first vs) (state_place n v)) k

-- the places in the block of the values that a value takes; a phi takes none
abbrev pub taken_place : Numbering → ℕ → List ValueRecord → ℕ → Option ℕ
taken_place n first vs a = option_and_then (local_in first (length vs)) (get nat_cmp n.values a)

abbrev pub taken_places : Numbering → ℕ → List ValueRecord → ValueRecord → List ℕ
taken_places n first vs v = if is_phi (origin_of v.op.family) then [] else filter_map (taken_place n first vs) v.args

abbrev pub all_taken : Numbering → ℕ → List ValueRecord → List (List ℕ)
all_taken n first vs = map (taken_places n first vs) vs

abbrev pub dues_at : Numbering → ℕ → List ValueRecord → ℕ → Option Due
dues_at n first vs k = option_and_then (place_due n first vs k) (slice_get vs k)

-- the order of the places of a block whose values are all due and take each other in no circle
pub record IsArranged (n : Numbering) (first : ℕ) (vs : List ValueRecord) (zs : List ℕ) : Type 0 where
  pub filled : ((k : ℕ) (v : ValueRecord) → slice_get vs k ≡ Some v → (d : Due) × (place_due n first vs k v ≡ Some d)) → (r : ℕ → ℕ) → FallsBy r (all_taken n first vs)
      → Filled (dues_at n first vs) (λ x y. Contains (taken_in (all_taken n first vs) x) y) (range_with_len 0 (length vs)) zs
