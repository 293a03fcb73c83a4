-- Numbers by places.
use Rattle.std.specs.Prelude.{ℕ, List, Option, Some, None, slice_get, slice_index, if◌then◌else◌}
use Rattle.bk_num.specs.Bytes.{is_within}
use Rattle.bk_num.specs.Memory.{data_base}
use Rattle.bk_ops.specs.Memory.{do_overlap}

-- the number at the place that stands in a list at an index, 0 where none does
abbrev pub at_place : List ℕ → Option ℕ → ℕ
at_place numbers None = 0
at_place numbers (Some p) = slice_index numbers p

abbrev pub arg_number : List ℕ → List ℕ → ℕ → ℕ
arg_number numbers places k = at_place numbers (slice_get places k)

-- the address at fault where bytes are copied: that of bytes that are read outside the window, else that of bytes that are
-- written outside it or over some of those that are read
abbrev pub copy_fault : List ℕ → ℕ → ℕ → ℕ → Option ℕ
copy_fault window count to from =
    if is_within data_base window count from
    then (if is_within data_base window count to then (if do_overlap count to from then Some to else None) else Some to)
    else Some from
