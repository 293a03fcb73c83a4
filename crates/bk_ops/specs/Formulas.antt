-- The table of values: for each op its formula, with the width of each place of an argument.
use Rattle.std.specs.Prelude.{ℕ, ℤ, ◌+◌, ◌-◌, ◌*◌, ◌/◌, ◌%◌, ◌^◌, true, false, nat_lt, nat_le, ◌==◌, not, if◌then◌else◌, bit_and, bit_or, bit_xor}
use Rattle.std.specs.Int.Count.{count_trailing_zeros}
use Rattle.bk_num.specs.Word.{residue, rotated, high_half}
use Rattle.bk_ops.specs.Arithmetic.{as_bit, difference, complement, less, zero_mask, sign_mask, quotient, quotient_unsigned, remainder, remainder_unsigned, shifted_left, shifted_signed, extended, bit_length, sum_with_carry, difference_with_borrow}
use Rattle.bk_ops.specs.Types.{word_width}
use Rattle.bk_ops.specs.declared.types.Target.{Target}
use Rattle.bk_ops.specs.declared.family.Family.{Family}
use Rattle.bk_ops.specs.declared.family.Family.TheVariants.{Const, ConstBool, ConstNil, Add, Sub, Mul, And, Or, Xor, Neg, Com, Div, Divu, Mod, Modu, Hmul, Hmulu, Lsh, Rsh, RshU, Eq, Neq, Less, LessU, Leq, LeqU, EqB, NeqB, AndB, OrB, Not, EqPtr, NeqPtr, IsNonNil, IsInBounds, IsSliceInBounds, SignExt, ZeroExt, Trunc, CvtBoolToUint8, Signmask, Zeromask, Ctz32, BitLen32, RotateLeft, CondSelect, AddPtr, SubPtr, OffPtr, Int64Make, Int64Hi, Int64Lo, AddHi32, SubHi32, Phi, Copy, Arg, InitMem, Sp, Sb, Addr, Load, Store, Zero, Move, NilCheck, PanicBounds, StaticLECall, SelectN, MakeResult, ArgWord, ArgReg, ResWord, ResReg, OutWord, RetWord, RetRegs, Call, CallRegs, Trap, Arm, Rv}
use Rattle.bk_ops.specs.declared.family.ArmOp.{ArmOp}
use Rattle.bk_ops.specs.declared.family.ArmOp.TheVariants as arm
use Rattle.bk_ops.specs.declared.family.RvOp.{RvOp}
use Rattle.bk_ops.specs.declared.family.RvOp.TheVariants as rv

-- how a value comes from the arguments: the width of each place, and what is computed of numbers of these widths
pub data Formula : Type 0 where
  no_value : Formula
  constant : ℕ → Formula
  of_one : ℕ → (ℕ → ℕ) → Formula
  of_two : ℕ → ℕ → (ℕ → ℕ → ℕ) → Formula
  of_three : ℕ → ℕ → ℕ → (ℕ → ℕ → ℕ → ℕ) → Formula
  of_four : ℕ → ℕ → ℕ → ℕ → (ℕ → ℕ → ℕ → ℕ → ℕ) → Formula

-- the place of a value of any type, which is taken as it is
abbrev pub any_width : ℕ
any_width = 64

-- machine ops of arm, over words of w bits; n is the op's number
unfoldable pub arm_formula : ArmOp → ℕ → ℤ → Target → Formula
arm_formula arm.Const w n t = constant (residue w n)
arm_formula arm.Addr w n t = no_value
arm_formula arm.Add w n t = of_two w w (λ x y. (x + y) % 2 ^ w)
arm_formula arm.Sub w n t = of_two w w (λ x y. difference w x y)
arm_formula arm.Mul w n t = of_two w w (λ x y. x * y % 2 ^ w)
arm_formula arm.And w n t = of_two w w (λ x y. bit_and x y)
arm_formula arm.Orr w n t = of_two w w (λ x y. bit_or x y)
arm_formula arm.Eor w n t = of_two w w (λ x y. bit_xor x y)
arm_formula arm.Smulh w n t = of_two w w (λ x y. high_half w x y true)
arm_formula arm.Umulh w n t = of_two w w (λ x y. high_half w x y false)
arm_formula arm.Sdiv w n t = of_two w w (λ x y. quotient t w x y)
arm_formula arm.Udiv w n t = of_two w w (λ x y. quotient_unsigned t w x y)
arm_formula arm.Smod w n t = of_two w w (λ x y. remainder w x y)
arm_formula arm.Umod w n t = of_two w w (λ x y. remainder_unsigned x y)
arm_formula arm.Lsl w n t = of_two w w (λ x y. shifted_left w x y)
arm_formula arm.Lsr w n t = of_two w w (λ x y. x / 2 ^ y)
arm_formula arm.Asr w n t = of_two w w (λ x y. shifted_signed w x y)
arm_formula arm.SetEq w n t = of_two w w (λ x y. as_bit (x == y))
arm_formula arm.SetNe w n t = of_two w w (λ x y. as_bit (not (x == y)))
arm_formula arm.SetLt w n t = of_two w w (λ x y. as_bit (less w x y))
arm_formula arm.SetLe w n t = of_two w w (λ x y. as_bit (not (less w y x)))
arm_formula arm.SetLo w n t = of_two w w (λ x y. as_bit (nat_lt x y))
arm_formula arm.SetLs w n t = of_two w w (λ x y. as_bit (nat_le x y))
arm_formula arm.Rotl w n t = of_two w w (λ x y. rotated w x y)
arm_formula arm.Rsb0 w n t = of_one w (λ x. (2 ^ w - x) % 2 ^ w)
arm_formula arm.Mvn w n t = of_one w (λ x. complement w x)
arm_formula arm.Sxtb w n t = of_one 8 (λ x. extended 8 w x)
arm_formula arm.Sxth w n t = of_one 16 (λ x. extended 16 w x)
arm_formula arm.Uxtb w n t = of_one 8 (λ x. x)
arm_formula arm.Uxth w n t = of_one 16 (λ x. x)
arm_formula arm.Zmask w n t = of_one w (λ x. zero_mask w x)
arm_formula arm.Ctz w n t = of_one w (λ x. count_trailing_zeros w x)
arm_formula arm.Blen w n t = of_one w (λ x. bit_length w x)
arm_formula arm.Sel w n t = of_three w w 1 (λ x y c. if c == 0 then y else x)
arm_formula arm.AddHi w n t = of_four w w w w (λ x y c d. sum_with_carry w x y c d)
arm_formula arm.SubHi w n t = of_four w w w w (λ x y c d. difference_with_borrow w x y c d)
arm_formula arm.Addi w n t = of_one w (λ x. (x + residue w n) % 2 ^ w)
arm_formula arm.Subi w n t = of_one w (λ x. difference w x (residue w n))
arm_formula arm.Andi w n t = of_one w (λ x. bit_and x (residue w n))
arm_formula arm.Eori w n t = of_one w (λ x. bit_xor x (residue w n))
arm_formula arm.Lsli w n t = of_one w (λ x. shifted_left w x (residue 64 n))
arm_formula arm.Lsri w n t = of_one w (λ x. x / 2 ^ residue 64 n)
arm_formula arm.Asri w n t = of_one w (λ x. shifted_signed w x (residue 64 n))
arm_formula arm.Load w n t = no_value
arm_formula arm.Store w n t = no_value
arm_formula arm.StoreB w n t = no_value
arm_formula arm.Zero w n t = no_value
arm_formula arm.Move w n t = no_value
arm_formula arm.Nil w n t = no_value

-- machine ops of riscv64, over words of w bits; n is the op's number
unfoldable pub rv_formula : RvOp → ℕ → ℤ → Target → Formula
rv_formula rv.Const w n t = constant (residue w n)
rv_formula rv.Addr w n t = no_value
rv_formula rv.Add w n t = of_two w w (λ x y. (x + y) % 2 ^ w)
rv_formula rv.Sub w n t = of_two w w (λ x y. difference w x y)
rv_formula rv.Mul w n t = of_two w w (λ x y. x * y % 2 ^ w)
rv_formula rv.And w n t = of_two w w (λ x y. bit_and x y)
rv_formula rv.Or w n t = of_two w w (λ x y. bit_or x y)
rv_formula rv.Xor w n t = of_two w w (λ x y. bit_xor x y)
rv_formula rv.Mulh w n t = of_two w w (λ x y. high_half w x y true)
rv_formula rv.Mulhu w n t = of_two w w (λ x y. high_half w x y false)
rv_formula rv.Div w n t = of_two w w (λ x y. quotient t w x y)
rv_formula rv.Divu w n t = of_two w w (λ x y. quotient_unsigned t w x y)
rv_formula rv.Rem w n t = of_two w w (λ x y. remainder w x y)
rv_formula rv.Remu w n t = of_two w w (λ x y. remainder_unsigned x y)
rv_formula rv.Slt w n t = of_two w w (λ x y. as_bit (less w x y))
rv_formula rv.Sltu w n t = of_two w w (λ x y. as_bit (nat_lt x y))
rv_formula rv.Lsl w n t = of_two w w (λ x y. shifted_left w x y)
rv_formula rv.Lsr w n t = of_two w w (λ x y. x / 2 ^ y)
rv_formula rv.Asr w n t = of_two w w (λ x y. shifted_signed w x y)
rv_formula rv.Rotl w n t = of_two w w (λ x y. rotated w x y)
rv_formula rv.Neg w n t = of_one w (λ x. (2 ^ w - x) % 2 ^ w)
rv_formula rv.Seqz w n t = of_one w (λ x. as_bit (x == 0))
rv_formula rv.Snez w n t = of_one w (λ x. as_bit (not (x == 0)))
rv_formula rv.Sel w n t = of_three w w 1 (λ x y c. if c == 0 then y else x)
rv_formula rv.Addi w n t = of_one w (λ x. (x + residue w n) % 2 ^ w)
rv_formula rv.Andi w n t = of_one w (λ x. bit_and x (residue w n))
rv_formula rv.Ori w n t = of_one w (λ x. bit_or x (residue w n))
rv_formula rv.Xori w n t = of_one w (λ x. bit_xor x (residue w n))
rv_formula rv.Slli w n t = of_one w (λ x. shifted_left w x (residue 64 n))
rv_formula rv.Srli w n t = of_one w (λ x. x / 2 ^ residue 64 n)
rv_formula rv.Srai w n t = of_one w (λ x. shifted_signed w x (residue 64 n))
rv_formula rv.Load w n t = no_value
rv_formula rv.Store w n t = no_value
rv_formula rv.StoreB w n t = no_value
rv_formula rv.Zero w n t = no_value
rv_formula rv.Move w n t = no_value
rv_formula rv.Nil w n t = no_value

-- the op of this family with widths a and b and the number n
unfoldable pub formula : Family → ℕ → ℕ → ℤ → Target → Formula
-- constants
formula Const a b n t = constant (residue a n)
formula ConstBool a b n t = constant (residue 1 n)
formula ConstNil a b n t = constant 0
-- arithmetic
formula Add a b n t = of_two a a (λ x y. (x + y) % 2 ^ a)
formula Sub a b n t = of_two a a (λ x y. difference a x y)
formula Mul a b n t = of_two a a (λ x y. x * y % 2 ^ a)
formula And a b n t = of_two a a (λ x y. bit_and x y)
formula Or a b n t = of_two a a (λ x y. bit_or x y)
formula Xor a b n t = of_two a a (λ x y. bit_xor x y)
formula Neg a b n t = of_one a (λ x. (2 ^ a - x) % 2 ^ a)
formula Com a b n t = of_one a (λ x. complement a x)
formula Div a b n t = of_two a a (λ x y. quotient t a x y)
formula Divu a b n t = of_two a a (λ x y. quotient_unsigned t a x y)
formula Mod a b n t = of_two a a (λ x y. remainder a x y)
formula Modu a b n t = of_two a a (λ x y. remainder_unsigned x y)
formula Hmul a b n t = of_two a a (λ x y. high_half a x y true)
formula Hmulu a b n t = of_two a a (λ x y. high_half a x y false)
-- shifts of a bits by a count of b bits
formula Lsh a b n t = of_two a b (λ x y. shifted_left a x y)
formula Rsh a b n t = of_two a b (λ x y. shifted_signed a x y)
formula RshU a b n t = of_two a b (λ x y. x / 2 ^ y)
-- comparisons
formula Eq a b n t = of_two a a (λ x y. as_bit (x == y))
formula Neq a b n t = of_two a a (λ x y. as_bit (not (x == y)))
formula Less a b n t = of_two a a (λ x y. as_bit (less a x y))
formula LessU a b n t = of_two a a (λ x y. as_bit (nat_lt x y))
formula Leq a b n t = of_two a a (λ x y. as_bit (not (less a y x)))
formula LeqU a b n t = of_two a a (λ x y. as_bit (nat_le x y))
-- truth values and pointers
formula EqB a b n t = of_two 1 1 (λ x y. as_bit (x == y))
formula NeqB a b n t = of_two 1 1 (λ x y. as_bit (not (x == y)))
formula AndB a b n t = of_two 1 1 (λ x y. bit_and x y)
formula OrB a b n t = of_two 1 1 (λ x y. bit_or x y)
formula Not a b n t = of_one 1 (λ x. 1 - x)
formula EqPtr a b n t = of_two (word_width t) (word_width t) (λ x y. as_bit (x == y))
formula NeqPtr a b n t = of_two (word_width t) (word_width t) (λ x y. as_bit (not (x == y)))
formula IsNonNil a b n t = of_one (word_width t) (λ x. as_bit (not (x == 0)))
formula IsInBounds a b n t = of_two (word_width t) (word_width t) (λ x y. as_bit (nat_lt x y))
formula IsSliceInBounds a b n t = of_two (word_width t) (word_width t) (λ x y. as_bit (nat_le x y))
-- conversions from a bits to b bits
formula SignExt a b n t = of_one a (λ x. extended a b x)
formula ZeroExt a b n t = of_one a (λ x. x)
formula Trunc a b n t = of_one a (λ x. x % 2 ^ b)
formula CvtBoolToUint8 a b n t = of_one 1 (λ x. x)
-- masks, bits and rotations
formula Signmask a b n t = of_one 32 (λ x. sign_mask 32 x)
formula Zeromask a b n t = of_one 32 (λ x. zero_mask 32 x)
formula Ctz32 a b n t = of_one 32 (λ x. count_trailing_zeros 32 x)
formula BitLen32 a b n t = of_one 32 (λ x. bit_length 32 x)
formula RotateLeft a b n t = of_two a (word_width t) (λ x y. rotated a x y)
formula CondSelect a b n t = of_three any_width any_width 1 (λ x y c. if c == 0 then y else x)
-- addresses
formula AddPtr a b n t = of_two (word_width t) (word_width t) (λ x y. (x + y) % 2 ^ word_width t)
formula SubPtr a b n t = of_two (word_width t) (word_width t) (λ x y. difference (word_width t) x y)
formula OffPtr a b n t = of_one (word_width t) (λ x. (x + residue (word_width t) n) % 2 ^ word_width t)
-- numbers of 64 bits in halves
formula Int64Make a b n t = of_two 32 32 (λ x y. x * 2 ^ 32 + y)
formula Int64Hi a b n t = of_one 64 (λ x. x / 2 ^ 32)
formula Int64Lo a b n t = of_one 64 (λ x. x % 2 ^ 32)
formula AddHi32 a b n t = of_four 32 32 32 32 (λ x y c d. sum_with_carry 32 x y c d)
formula SubHi32 a b n t = of_four 32 32 32 32 (λ x y c d. difference_with_borrow 32 x y c d)
-- values of a block or a function
formula Phi a b n t = no_value
formula Copy a b n t = of_one any_width (λ x. x)
formula Arg a b n t = no_value
formula InitMem a b n t = no_value
formula Sp a b n t = constant 0
formula Sb a b n t = constant 0
formula Addr a b n t = no_value
-- memory, checks and calls
formula Load a b n t = no_value
formula Store a b n t = no_value
formula Zero a b n t = no_value
formula Move a b n t = no_value
formula NilCheck a b n t = no_value
formula PanicBounds a b n t = no_value
formula StaticLECall a b n t = no_value
formula SelectN a b n t = no_value
formula MakeResult a b n t = no_value
-- words of arguments and results, calls and traps
formula ArgWord a b n t = no_value
formula ArgReg a b n t = no_value
formula ResWord a b n t = no_value
formula ResReg a b n t = no_value
formula OutWord a b n t = no_value
formula RetWord a b n t = no_value
formula RetRegs a b n t = no_value
formula Call a b n t = no_value
formula CallRegs a b n t = no_value
formula Trap a b n t = no_value
formula (Arm m) a b n t = arm_formula m (word_width t) n t
formula (Rv m) a b n t = rv_formula m (word_width t) n t
