-- What ops compute, over numbers of w bits: each argument is below 2 ^ w.
use Rattle.std.specs.Prelude.{ℕ, pos, ◌+◌, ◌-◌, ◌*◌, ◌/◌, ◌%◌, ◌^◌, Bool, nat_lt, int_lt, ◌==◌, if◌then◌else◌, int_div, int_rem}
use Rattle.std.specs.Int.{int_div_euclid}
use Rattle.std.specs.Int.Count.{count_leading_zeros}
use Rattle.bk_num.specs.Word.{signed, residue}
use Rattle.bk_ops.specs.declared.types.Target.{Target}
use Rattle.bk_ops.specs.declared.types.Target.TheVariants.{Arm, Riscv64}

-- a truth value as a number
abbrev pub as_bit : Bool → ℕ
as_bit t = if t then 1 else 0

-- x - y
abbrev pub difference : ℕ → ℕ → ℕ → ℕ
difference w x y = (x + (2 ^ w - y)) % 2 ^ w

-- all bits turned
abbrev pub complement : ℕ → ℕ → ℕ
complement w x = 2 ^ w - 1 - x

-- x < y, as signed numbers
abbrev pub less : ℕ → ℕ → ℕ → Bool
less w x y = int_lt (signed w x) (signed w y)

-- all ones where the number has a bit, else 0
abbrev pub zero_mask : ℕ → ℕ → ℕ
zero_mask w x = if x == 0 then 0 else 2 ^ w - 1

-- all ones where the number is negative, else 0
abbrev pub sign_mask : ℕ → ℕ → ℕ
sign_mask w x = if nat_lt x (2 ^ (w - 1)) then 0 else 2 ^ w - 1

-- a quotient by zero
abbrev pub over_zero : Target → ℕ → ℕ
over_zero Arm w = 0
over_zero Riscv64 w = 2 ^ w - 1

-- the signed quotient, rounded toward zero; the least number over -1 is itself
abbrev pub quotient : Target → ℕ → ℕ → ℕ → ℕ
quotient t w x y = if y == 0 then over_zero t w else residue w (int_div (signed w x) (signed w y))

-- the unsigned quotient
abbrev pub quotient_unsigned : Target → ℕ → ℕ → ℕ → ℕ
quotient_unsigned t w x y = if y == 0 then over_zero t w else x / y

-- the signed remainder, with the sign of x; over zero it is x
abbrev pub remainder : ℕ → ℕ → ℕ → ℕ
remainder w x y = if y == 0 then x else residue w (int_rem (signed w x) (signed w y))

-- the unsigned remainder; over zero it is x
abbrev pub remainder_unsigned : ℕ → ℕ → ℕ
remainder_unsigned x y = if y == 0 then x else x % y

-- x shifted left; 0 at counts of w and above
abbrev pub shifted_left : ℕ → ℕ → ℕ → ℕ
shifted_left w x count = x * 2 ^ count % 2 ^ w

-- x shifted right with its sign; the sign alone at counts of w and above
abbrev pub shifted_signed : ℕ → ℕ → ℕ → ℕ
shifted_signed w x count = residue w (int_div_euclid (signed w x) (pos (2 ^ count)))

-- the number of v bits with the signed value of x
abbrev pub extended : ℕ → ℕ → ℕ → ℕ
extended w v x = residue v (signed w x)

-- how many bits the number takes without its leading zeros
abbrev pub bit_length : ℕ → ℕ → ℕ
bit_length w x = w - count_leading_zeros w x

-- x + y, and the carry of c + d
abbrev pub sum_with_carry : ℕ → ℕ → ℕ → ℕ → ℕ → ℕ
sum_with_carry w x y c d = (x + y + (c + d) / 2 ^ w) % 2 ^ w

-- x - y, less the borrow of c - d
abbrev pub difference_with_borrow : ℕ → ℕ → ℕ → ℕ → ℕ → ℕ
difference_with_borrow w x y c d = difference w x (y + as_bit (nat_lt c d))
