-- Numbers of w bits: what they spell with a sign, and arithmetic modulo 2 ^ w.
use Rattle.std.specs.Prelude.{ℕ, ℤ, pos, negsuc, suc, ◌+◌, ◌*◌, ◌-◌, ◌/◌, ◌%◌, ◌^◌, ◌*ℤ◌, Bool, nat_lt, if◌then◌else◌, unsigned_abs}
use Rattle.std.specs.Int.{int_div_euclid, int_rem_euclid}

-- the signed number that the low w bits of n spell
abbrev pub signed : ℕ → ℕ → ℤ
signed w n = if nat_lt (n % 2 ^ w) (2 ^ (w - 1)) then pos (n % 2 ^ w) else negsuc (2 ^ w - suc (n % 2 ^ w))

-- the number below 2 ^ w that is congruent to z
abbrev pub residue : ℕ → ℤ → ℕ
residue w z = unsigned_abs (int_rem_euclid z (pos (2 ^ w)))

-- z lies from - 2 ^ (w - 1) to 2 ^ (w - 1) - 1
abbrev pub fits_signed : ℕ → ℤ → Bool
fits_signed w (pos n) = nat_lt n (2 ^ (w - 1))
fits_signed w (negsuc n) = nat_lt n (2 ^ (w - 1))

-- x shifted left by k modulo w, and the bits that this drops brought in from the right
abbrev pub rotated : ℕ → ℕ → ℕ → ℕ
rotated w x k = x * 2 ^ (k % w) % 2 ^ w + x % 2 ^ w / 2 ^ (w - k % w)

-- the product of two numbers of w bits, with or without a sign, over 2 ^ w
abbrev pub high_half : ℕ → ℕ → ℕ → Bool → ℕ
high_half w x y is_signed =
    if is_signed
    then residue w (int_div_euclid (signed w x *ℤ signed w y) (pos (2 ^ w)))
    else x % 2 ^ w * (y % 2 ^ w) / 2 ^ w
