-- The words of a unit once the address that it waits for is known.
use Rattle.std.specs.Prelude.{ℕ, ◌+◌, ◌-◌, ◌*◌, ◌/◌, ◌%◌, ◌^◌, List, slice_index, slice_set}
use Rattle.bk_ops.specs.declared.types.Target.{Target}
use Rattle.bk_ops.specs.declared.types.Target.TheVariants.{Arm, Riscv64}
use Rattle.bk_piece.specs.declared.Patch.{Patch}
use Rattle.bk_piece.specs.declared.Patch.TheVariants.{Call, Addr, Pool}

-- how many words are patched
abbrev pub patched_words : Target → Patch → ℕ
patched_words Arm Call = 1
patched_words Arm Addr = 2
patched_words Arm Pool = 0
patched_words Riscv64 p = 2

-- the distance from one address to another, modulo 2 ^ 32
abbrev pub distance : ℕ → ℕ → ℕ
distance from to = (to + 2 ^ 32 - from) % 2 ^ 32

-- the upper 20 bits of a number, one more where the low 12 bits are negative with their sign, and the low 12 bits
abbrev pub upper : ℕ → ℕ
upper n = (n + 2048) / 2 ^ 12 % 2 ^ 20

abbrev pub lower : ℕ → ℕ
lower n = n % 2 ^ 12

-- a RISC-V word of the U format, and of the I format, with this immediate
abbrev pub with_upper : ℕ → ℕ → ℕ
with_upper imm word = imm * 2 ^ 12 + word % 2 ^ 12

abbrev pub with_lower : ℕ → ℕ → ℕ
with_lower imm word = imm * 2 ^ 20 + word % 2 ^ 20

-- the two words of a unit with this number in their immediates
abbrev pub with_number : List ℕ → ℕ → List ℕ
with_number words n =
    slice_set (slice_set words 0 (with_upper (upper n) (slice_index words 0))) 1 (with_lower (lower n) (slice_index words 1))

-- an A32 word of BL with this offset in words, counted from the second next instruction
abbrev pub with_offset : ℕ → ℕ → ℕ
with_offset imm word = word / 2 ^ 24 * 2 ^ 24 + imm

-- an A32 word of MOVW or MOVT with this immediate: its high four bits above the register, the others below it
abbrev pub with_half : ℕ → ℕ → ℕ
with_half imm word = word / 2 ^ 20 * 2 ^ 20 + imm / 2 ^ 12 * 2 ^ 16 + word % 2 ^ 16 / 2 ^ 12 * 2 ^ 12 + imm % 2 ^ 12

-- what the two words of a unit of riscv64 hold: the target's address, or the distance to it for a call
abbrev pub number_of : Patch → ℕ → ℕ → ℕ
number_of Call target place = distance place target
number_of Addr target place = target
number_of Pool target place = target

-- the words of a unit at an address, with the target's address
abbrev pub patched : Target → Patch → List ℕ → ℕ → ℕ → List ℕ
patched Riscv64 p words target place = with_number words (number_of p target place)
patched Arm Call words target place =
    slice_set words 0 (with_offset (distance (place + 8) target % 2 ^ 26 / 4) (slice_index words 0))
patched Arm Addr words target place =
    slice_set
    (slice_set words 0 (with_half (target % 2 ^ 16) (slice_index words 0)))
    1
    (with_half (target / 2 ^ 16 % 2 ^ 16) (slice_index words 1))
patched Arm Pool words target place = words
