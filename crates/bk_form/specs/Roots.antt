-- What copies of memory stand for, by places.
use Rattle.std.specs.Prelude.{◌≡◌, ◌↔◌, ℕ, ◌<◌, List, length, Option, None, Some, slice_index_or}
use Rattle.std.specs.List.{slice_get}
use Rattle.bk_func.specs.Records.{ValueRecord, FuncRecord}
use Rattle.bk_func.specs.Form.States.{CopiesMemory, StandsFor}
use Rattle.bk_places.specs.Search.{IsEdge}
use Rattle.bk_form.specs.Numbers.{value_ids, sole}
use Rattle.bk_form.specs.Places.{NodeRecord, nodes_of}

-- the value copies memory, which stands at the place
abbrev pub Copies : FuncRecord → ValueRecord → ℕ → Type 0
Copies f v p = CopiesMemory v × ((n : ℕ) × (slice_get v.args 0 ≡ Some n) × (sole (value_ids f) n ≡ Some p))

-- the value at the second place copies that at the first
abbrev pub IsCopyAt : FuncRecord → ℕ → ℕ → Type 0
IsCopyAt f p q = (m : NodeRecord) × (slice_get (nodes_of f) q ≡ Some m) × Copies f m.value p

-- edges that lead from values to their copies, of those below the place i
pub record AreCopies (f : FuncRecord) (i : ℕ) (es : List (List ℕ)) : Type 0 where
  pub size : length es ≡ length (nodes_of f)
  pub edge : (p q : ℕ) → IsEdge es p q ↔ (q < i × IsCopyAt f p q)

-- the place that each value stands for
pub record AreRoots (f : FuncRecord) (rs : List (Option ℕ)) : Type 0 where
  pub within : (p r : ℕ) → slice_index_or rs p None ≡ Some r → r < length (nodes_of f)
  pub each : (p r : ℕ) (m o : NodeRecord) → slice_get (nodes_of f) p ≡ Some m → slice_get (nodes_of f) r ≡ Some o
      → (slice_index_or rs p None ≡ Some r) ↔ StandsFor f m.value.id o.value.id
