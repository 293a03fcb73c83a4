-- Numbers in bytes, the low byte first, and windows of bytes that begin at an address.
use Rattle.std.specs.Prelude.{ℕ, zero, suc, List, [], ◌∷◌, ◌++◌, length, ◌+◌, ◌*◌, ◌-◌, ◌/◌, ◌%◌, Bool, nat_le, ◌&&◌, if◌then◌else◌, Option, Some, None, slice_range, take, drop}

-- the number that the bytes spell
unfoldable pub number : List ℕ → ℕ
number [] = 0
number (b ∷ bs) = b + 256 * number bs

-- the `size` low bytes of a number
unfoldable pub bytes : ℕ → ℕ → List ℕ
bytes zero n = []
bytes (suc size) n = n % 256 ∷ bytes size (n / 256)

-- the `size` low bytes of each number
abbrev pub each_bytes : ℕ → List ℕ → List ℕ
each_bytes size [] = []
each_bytes size (n ∷ ns) = bytes size n ++ each_bytes size ns

-- `size` bytes at the address lie whole in the window from `base` on
abbrev pub is_within : ℕ → List ℕ → ℕ → ℕ → Bool
is_within base window size address = nat_le base address && nat_le (address + size) (base + length window)

-- the number in `size` bytes at the address
unfoldable pub load_in : ℕ → List ℕ → ℕ → ℕ → Option ℕ
load_in base window size address =
    if is_within base window size address then Some (number (slice_range window (address - base) (address - base + size))) else None

-- the window with `size` bytes in their place
abbrev pub written : ℕ → List ℕ → ℕ → ℕ → ℕ → List ℕ
written base window size address n = take (address - base) window ++ (bytes size n ++ drop (address - base + size) window)

-- the window after a write of `size` bytes at the address
unfoldable pub store_in : ℕ → List ℕ → ℕ → ℕ → ℕ → Option (List ℕ)
store_in base window size address n = if is_within base window size address then Some (written base window size address n) else None
