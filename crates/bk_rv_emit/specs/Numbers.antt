-- Numbers as immediates.
use Rattle.std.specs.Prelude.{ℕ, ℤ, pos, negsuc, ◌+◌, ◌/◌, ◌^◌, min}
use Rattle.bk_num.specs.Word.{signed, residue}

-- a number, at most m, which stands for those that are above it or negative
abbrev pub capped : ℕ → ℤ → ℕ
capped m (pos n) = min n m
capped m (negsuc n) = m

-- the two immediates of LUI or AUIPC and of the instruction behind it that make a number of 32 bits
abbrev pub upper : ℤ → ℤ
upper z = signed 20 ((residue 32 z + 2048) / 2 ^ 12)

abbrev pub lower : ℤ → ℤ
lower z = signed 12 (residue 32 z)
