-- The places of values and blocks.
use Rattle.std.specs.Prelude.{◌≡◌, ℕ, ◌-◌, ◌≤◌, ◌==◌, nat_le, nat_lt, ◌&&◌, if◌then◌else◌, List, length, position, slice_get, slice_index, Option, Some, None, unwrap_or, option_and_then}
use Rattle.std.specs.Ordering.{nat_cmp}
use Rattle.std.specs.BTreeMap.{get}
use Rattle.bk_func.specs.Records.{ValueRecord, FuncRecord}
use Rattle.bk_func.specs.Numbers.{values_of, room, is_memory_copy, memory_at}
use Rattle.bk_mean.specs.declared.numbering.Numbering.{Numbering}

-- the place of the value with a number
abbrev pub found_in : FuncRecord → ℕ → Option ℕ
found_in f id = position (λ v. v.id == id) (values_of f)

-- the place of the number of a value among the numbers of a call: that after all values where the function has no such value
abbrev pub place_in : FuncRecord → ℕ → ℕ
place_in f id = unwrap_or (found_in f id) (room f)

-- what a copy of memory copies; other values stand for themselves
abbrev pub copied_by : ValueRecord → ℕ
copied_by v = if is_memory_copy v then slice_index v.args 0 else v.id

-- for each value, by places, the place of what its number stands for through n copies of memory or more
pub record AreRoots (f : FuncRecord) (n : ℕ) (roots : List ℕ) : Type 0 where
  pub length : length roots ≡ room f
  pub each : (id p : ℕ) → found_in f id ≡ Some p → (j : ℕ) × (n ≤ j) × (slice_index roots p ≡ place_in f (memory_at j f id))

-- the places of the function's values and blocks by their numbers, and of what each value stands for
pub record IsNumbering (f : FuncRecord) (n : Numbering) : Type 0 where
  pub values : (id : ℕ) → get nat_cmp n.values id ≡ found_in f id
  pub blocks : (id : ℕ) → get nat_cmp n.blocks id ≡ position (λ b. b.id == id) f.blocks
  pub roots : AreRoots f (room f) n.roots.items

-- a place among so many
abbrev pub within : ℕ → ℕ → Option ℕ
within count p = if nat_lt p count then Some p else None

-- the place of what a number stands for through copies of memory
abbrev pub root_in : Numbering → ℕ → Option ℕ
root_in n id = option_and_then (λ p. option_and_then (within (length n.roots.items)) (slice_get n.roots.items p)) (get nat_cmp n.values id)

-- the place in a block of so many values, the first of which has a place, of the value at a place
abbrev pub local_in : ℕ → ℕ → ℕ → Option ℕ
local_in first count p = if nat_le first p && nat_lt (p - first) count then Some (p - first) else None
