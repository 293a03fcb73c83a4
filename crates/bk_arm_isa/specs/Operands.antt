-- Conditions, second operands and flags, after the ARM Architecture Reference Manual, sections A2.2, A5.2.4, A8.3 and A8.4.
use Rattle.std.specs.Prelude.{ℕ, pos, ◌+◌, ◌*◌, ◌-◌, ◌/◌, ◌%◌, ◌^◌, ◌+ℤ◌, Bool, true, false, not, nat_le, ◌&&◌, ◌==◌, if◌then◌else◌, List, slice_index, bit_and, bit_or, bit_xor}
use Rattle.std.specs.Int.{int_div_euclid}
use Rattle.bk_num.specs.Word.{signed, residue, rotated, fits_signed}
use Rattle.bk_arm_isa.specs.declared.flags.Flags.{Flags}
use Rattle.bk_arm_isa.specs.declared.Condition.{Condition}
use Rattle.bk_arm_isa.specs.declared.Condition.TheVariants.{Eq, Ne, Cs, Cc, Mi, Pl, Vs, Vc, Hi, Ls, Ge, Lt, Gt, Le, Al}
use Rattle.bk_arm_isa.specs.declared.DataOp.{DataOp}
use Rattle.bk_arm_isa.specs.declared.DataOp.TheVariants.{And, Eor, Sub, Rsb, Add, Adc, Sbc, Rsc, Orr, Bic}
use Rattle.bk_arm_isa.specs.declared.MoveOp.{MoveOp}
use Rattle.bk_arm_isa.specs.declared.MoveOp.TheVariants.{Mov, Mvn}
use Rattle.bk_arm_isa.specs.declared.TestOp.{TestOp}
use Rattle.bk_arm_isa.specs.declared.TestOp.TheVariants.{Tst, Teq, Cmp, Cmn}
use Rattle.bk_arm_isa.specs.declared.Shift.{Shift}
use Rattle.bk_arm_isa.specs.declared.Shift.TheVariants.{Lsl, Lsr, Asr, Ror}
use Rattle.bk_arm_isa.specs.declared.Operand2.{Operand2}
use Rattle.bk_arm_isa.specs.declared.Operand2.TheVariants.{Immediate, ShiftImmediate, ShiftRegister}

-- N and V are the same
abbrev pub is_signed_ge : Flags → Bool
is_signed_ge f = if f.negative then f.overflow else not f.overflow

-- whether an instruction under a condition is executed
abbrev pub passes : Condition → Flags → Bool
passes Eq f = f.zero
passes Ne f = not f.zero
passes Cs f = f.carry
passes Cc f = not f.carry
passes Mi f = f.negative
passes Pl f = not f.negative
passes Vs f = f.overflow
passes Vc f = not f.overflow
passes Hi f = f.carry && not f.zero
passes Ls f = not (f.carry && not f.zero)
passes Ge f = is_signed_ge f
passes Lt f = not (is_signed_ge f)
passes Gt f = not f.zero && is_signed_ge f
passes Le f = not (not f.zero && is_signed_ge f)
passes Al f = true

-- a register
abbrev pub reg : List ℕ → ℕ → ℕ
reg regs k = slice_index regs k

-- a number of 32 bits, shifted or rotated by a count
abbrev pub shifted : Shift → ℕ → ℕ → ℕ
shifted Lsl x count = x * 2 ^ count % 2 ^ 32
shifted Lsr x count = x % 2 ^ 32 / 2 ^ count
shifted Asr x count = residue 32 (int_div_euclid (signed 32 x) (pos (2 ^ count)))
shifted Ror x count = rotated 32 x (32 - count % 32)

-- the second operand; a count in a register is its low byte
abbrev pub operand : List ℕ → Operand2 → ℕ
operand regs (Immediate imm8 rotation) = shifted Ror imm8 (2 * rotation)
operand regs (ShiftImmediate rm shift imm5) = shifted shift (reg regs rm) imm5
operand regs (ShiftRegister rm shift rs) = shifted shift (reg regs rm) (reg regs rs % 2 ^ 8)

-- each bit turned
abbrev pub inverted : ℕ → ℕ
inverted x = 2 ^ 32 - 1 - x

-- the number of a flag
abbrev pub bit : Bool → ℕ
bit b = if b then 1 else 0

-- the sum with a carry
abbrev pub sum : ℕ → ℕ → Bool → ℕ
sum x y carry = (x + y + bit carry) % 2 ^ 32

-- what data processing of two operands gives
abbrev pub data_result : DataOp → ℕ → ℕ → Bool → ℕ
data_result And x y carry = bit_and x y
data_result Eor x y carry = bit_xor x y
data_result Sub x y carry = sum x (inverted y) true
data_result Rsb x y carry = sum (inverted x) y true
data_result Add x y carry = sum x y false
data_result Adc x y carry = sum x y carry
data_result Sbc x y carry = sum x (inverted y) carry
data_result Rsc x y carry = sum (inverted x) y carry
data_result Orr x y carry = bit_or x y
data_result Bic x y carry = bit_and x (inverted y)

-- what data processing of one operand gives
abbrev pub move_result : MoveOp → ℕ → ℕ
move_result Mov y = y
move_result Mvn y = inverted y

-- the flags of a sum: its sign, whether it is 0, whether it passes 32 bits, and whether it passes them as a signed sum
abbrev pub sum_flags : ℕ → ℕ → Bool → Flags
sum_flags x y carry = record {
  negative = nat_le (2 ^ 31) (sum x y carry);
  zero = sum x y carry == 0;
  carry = nat_le (2 ^ 32) (x + y + bit carry);
  overflow = not (fits_signed 32 ((signed 32 x +ℤ signed 32 y) +ℤ pos (bit carry)));
}

-- the flags of a bitwise result, beside the carry and overflow from before: TST and TEQ have operands whose shifter passes the
-- carry on
abbrev pub logic_flags : ℕ → Flags → Flags
logic_flags result f = record { negative = nat_le (2 ^ 31) result; zero = result == 0; carry = f.carry; overflow = f.overflow }

-- the flags after a test
abbrev pub test_flags : TestOp → ℕ → ℕ → Flags → Flags
test_flags Tst x y f = logic_flags (bit_and x y) f
test_flags Teq x y f = logic_flags (bit_xor x y) f
test_flags Cmp x y f = sum_flags x (inverted y) true
test_flags Cmn x y f = sum_flags x y false
