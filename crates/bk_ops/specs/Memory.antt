-- The data window: bytes from the address `data_base` on. A number stands there with its low byte first, and an access that
-- has a byte outside reads and writes nothing.
use Rattle.std.specs.Prelude.{ℕ, List, Bool, ◌+◌, nat_lt, ◌==◌, ◌&&◌, not, if◌then◌else◌, Option, Some, None}
use Rattle.bk_num.specs.Bytes.{load_in, store_in}
use Rattle.bk_num.specs.Memory.{data_base}

-- the number in `size` bytes at an address
abbrev pub number_at : List ℕ → ℕ → ℕ → Option ℕ
number_at window size address = load_in data_base window size address

-- the window with the low `size` bytes of a number at an address
abbrev pub with_number : List ℕ → ℕ → ℕ → ℕ → Option (List ℕ)
with_number window size address n = store_in data_base window size address n

-- the window with `size` zero bytes at an address
abbrev pub with_zeros : List ℕ → ℕ → ℕ → Option (List ℕ)
with_zeros window size address = store_in data_base window size address 0

-- two runs of `size` bytes that begin at different addresses share a byte
abbrev pub do_overlap : ℕ → ℕ → ℕ → Bool
do_overlap size to from = not (to == from) && nat_lt to (from + size) && nat_lt from (to + size)

-- the window with the `size` bytes that were read at one address at another one, where the two do not overlap
abbrev pub with_moved : List ℕ → ℕ → ℕ → Option ℕ → ℕ → Option (List ℕ)
with_moved window size to None from = None
with_moved window size to (Some n) from = if do_overlap size to from then None else store_in data_base window size to n

abbrev pub with_move : List ℕ → ℕ → ℕ → ℕ → Option (List ℕ)
with_move window size to from = with_moved window size to (number_at window size from) from
