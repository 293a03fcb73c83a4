-- The numbers by which values name states, and the first places of numbers.
use Rattle.std.specs.Prelude.{◌≡◌, ◌↔◌, ℕ, ◌==◌, List, position, true, Option, Some, MatchOption, ◌⊎◌}
use Rattle.std.specs.List.{slice_get}
use Rattle.bk_ops.specs.Families.{is_call_result}
use Rattle.bk_func.specs.Records.{ValueRecord}
use Rattle.bk_func.specs.Form.States.{CopiesMemory, NamesAt}

-- the value names a state by its first argument
abbrev pub NamesFirst : ValueRecord → Type 0
NamesFirst v = CopiesMemory v ⊎ (is_call_result v.op.family ≡ true)

-- the number stands where the value names a state
abbrev pub NamesBy : ValueRecord → ℕ → Type 0
NamesBy v n = (k : ℕ) × NamesAt v k × (slice_get v.args k ≡ Some n)

-- that number, if there is one
abbrev pub NamesIf : ValueRecord → Option ℕ → Type 0
NamesIf v o = MatchOption o ((n : ℕ) → ¬ NamesBy v n) (λ n. (m : ℕ) → NamesBy v m ↔ (m ≡ n))

-- the first place of the number
abbrev pub place_in : List ℕ → ℕ → Option ℕ
place_in ns n = position (λ m. m == n) ns
