-- The instruction of a word, by the groups of instructions that have their fields in one place.
use Rattle.std.specs.Prelude.{ℕ, ◌+◌, ◌*◌, ◌/◌, ◌%◌, ◌^◌, Bool, false, ◌==◌, ◌&&◌, ◌||◌, if◌then◌else◌, Option, Some, None}
use Rattle.bk_num.specs.Word.{signed}
use Rattle.bk_arm_isa.specs.declared.read.Group.{Group}
use Rattle.bk_arm_isa.specs.declared.read.Group.TheVariants as G
use Rattle.bk_arm_isa.specs.declared.Condition.{Condition}
use Rattle.bk_arm_isa.specs.declared.Condition.TheVariants.{Eq, Ne, Cs, Cc, Mi, Pl, Vs, Vc, Hi, Ls, Ge, Lt, Gt, Le, Al}
use Rattle.bk_arm_isa.specs.declared.DataOp.{DataOp}
use Rattle.bk_arm_isa.specs.declared.DataOp.TheVariants.{And, Eor, Sub, Rsb, Add, Adc, Sbc, Rsc, Orr, Bic}
use Rattle.bk_arm_isa.specs.declared.MoveOp.{MoveOp}
use Rattle.bk_arm_isa.specs.declared.MoveOp.TheVariants.{Mov, Mvn}
use Rattle.bk_arm_isa.specs.declared.TestOp.{TestOp}
use Rattle.bk_arm_isa.specs.declared.TestOp.TheVariants.{Tst, Teq, Cmp, Cmn}
use Rattle.bk_arm_isa.specs.declared.Shift.{Shift}
use Rattle.bk_arm_isa.specs.declared.Shift.TheVariants.{Lsl, Lsr, Asr, Ror}
use Rattle.bk_arm_isa.specs.declared.Operand2.{Operand2}
use Rattle.bk_arm_isa.specs.declared.Operand2.TheVariants.{Immediate, ShiftImmediate, ShiftRegister}
use Rattle.bk_arm_isa.specs.declared.Inst.{Inst}
use Rattle.bk_arm_isa.specs.declared.Inst.TheVariants.{Data, Move, Test, Movw, Movt, Mul, Mls, Umull, Smull, Sdiv, Udiv, Clz, Rbit, Sxtb, Sxth, Uxtb, Uxth, Ldr, Str, Ldrb, Strb, Ldrh, Strh, B, Bl, Bx, Udf}
use Rattle.bk_arm_isa.specs.Encoding.{encoding}

-- the group of data processing with these bits 27 to 20
abbrev pub data_group_at : ℕ → Group
data_group_at opcode =
    if opcode / 8 % 4 == 2
    then (if opcode % 2 == 1 then G.Test else (if opcode / 32 == 0 then G.Miscellaneous else G.Wide))
    else (if opcode / 2 % 16 == 13 || opcode / 2 % 16 == 15 then G.Move else G.Data)

-- the group of a word with these bits 27 to 20 and 7 to 4
abbrev pub group_at : ℕ → ℕ → Group
group_at opcode low =
    if opcode / 32 == 0 && low == 9 then G.Multiply
    else (if opcode / 32 == 0 && low == 11 then G.Half
    else (if opcode / 32 == 0 || opcode / 32 == 1 then data_group_at opcode
    else (if opcode / 32 == 2 then G.Memory
    else (if opcode / 32 == 3 then G.Media
    else G.Branch))))

-- the condition of a number below 15
abbrev pub condition_of : ℕ → Condition
condition_of number =
    if number == 0 then Eq else (if number == 1 then Ne else (if number == 2 then Cs else (if number == 3 then Cc
    else (if number == 4 then Mi else (if number == 5 then Pl else (if number == 6 then Vs else (if number == 7 then Vc
    else (if number == 8 then Hi else (if number == 9 then Ls else (if number == 10 then Ge else (if number == 11 then Lt
    else (if number == 12 then Gt else (if number == 13 then Le else Al)))))))))))))

-- the operation of an opcode, which is that of one
abbrev pub data_op_of : ℕ → DataOp
data_op_of opcode =
    if opcode == 0 then And else (if opcode == 1 then Eor else (if opcode == 2 then Sub else (if opcode == 3 then Rsb
    else (if opcode == 4 then Add else (if opcode == 5 then Adc else (if opcode == 6 then Sbc else (if opcode == 7 then Rsc
    else (if opcode == 12 then Orr else Bic))))))))

-- the same for MOV and MVN
abbrev pub move_op_of : ℕ → MoveOp
move_op_of opcode = if opcode == 13 then Mov else Mvn

-- the same for the tests
abbrev pub test_op_of : ℕ → TestOp
test_op_of opcode = if opcode == 8 then Tst else (if opcode == 9 then Teq else (if opcode == 10 then Cmp else Cmn))

-- the shift of a number below 4
abbrev pub shift_of : ℕ → Shift
shift_of number = if number == 0 then Lsl else (if number == 1 then Lsr else (if number == 2 then Asr else Ror))

-- the four bits of a word from a place on
abbrev pub field : ℕ → ℕ → ℕ
field n at = n / 2 ^ at % 16

-- the second operand of data processing at the low bits and bit 25
abbrev pub operand2_of : ℕ → Operand2
operand2_of n =
    if n / 2 ^ 25 % 2 == 1 then Immediate (n % 256) (field n 8)
    else (if n / 2 ^ 4 % 2 == 1 then ShiftRegister (field n 0) (shift_of (n / 2 ^ 5 % 4)) (field n 8)
    else ShiftImmediate (field n 0) (shift_of (n / 2 ^ 5 % 4)) (n / 2 ^ 7 % 32))

-- data processing of two operands into a register
abbrev pub data_of : ℕ → Inst
data_of n = Data (condition_of (n / 2 ^ 28)) (data_op_of (n / 2 ^ 21 % 16)) (field n 12) (field n 16) (operand2_of n)

-- MOV or MVN
abbrev pub move_of : ℕ → Inst
move_of n = Move (condition_of (n / 2 ^ 28)) (move_op_of (n / 2 ^ 21 % 16)) (field n 12) (operand2_of n)

-- a test
abbrev pub test_of : ℕ → Inst
test_of n = Test (condition_of (n / 2 ^ 28)) (test_op_of (n / 2 ^ 21 % 16)) (field n 16) (operand2_of n)

-- MOVW or MOVT
abbrev pub wide_of : ℕ → Inst
wide_of n =
    if n / 2 ^ 22 % 2 == 0
    then Movw (condition_of (n / 2 ^ 28)) (field n 12) (field n 16 * 2 ^ 12 + n % 2 ^ 12)
    else Movt (condition_of (n / 2 ^ 28)) (field n 12) (field n 16 * 2 ^ 12 + n % 2 ^ 12)

-- a multiplication, by bits 23 to 20
abbrev pub multiply_of : ℕ → Inst
multiply_of n =
    if field n 20 == 0 then Mul (condition_of (n / 2 ^ 28)) (field n 16) (field n 0) (field n 8)
    else (if field n 20 == 6 then Mls (condition_of (n / 2 ^ 28)) (field n 16) (field n 0) (field n 8) (field n 12)
    else (if field n 20 == 8 then Umull (condition_of (n / 2 ^ 28)) (field n 12) (field n 16) (field n 0) (field n 8)
    else Smull (condition_of (n / 2 ^ 28)) (field n 12) (field n 16) (field n 0) (field n 8)))

-- BX or CLZ
abbrev pub miscellaneous_of : ℕ → Inst
miscellaneous_of n =
    if n / 2 ^ 22 % 2 == 0
    then Bx (condition_of (n / 2 ^ 28)) (field n 0)
    else Clz (condition_of (n / 2 ^ 28)) (field n 12) (field n 0)

-- an access to a word or a byte
abbrev pub memory_of : ℕ → Inst
memory_of n =
    if n / 2 ^ 20 % 8 == 0 then Str (condition_of (n / 2 ^ 28)) (field n 12) (field n 16) (n % 2 ^ 12)
    else (if n / 2 ^ 20 % 8 == 1 then Ldr (condition_of (n / 2 ^ 28)) (field n 12) (field n 16) (n % 2 ^ 12)
    else (if n / 2 ^ 20 % 8 == 4 then Strb (condition_of (n / 2 ^ 28)) (field n 12) (field n 16) (n % 2 ^ 12)
    else Ldrb (condition_of (n / 2 ^ 28)) (field n 12) (field n 16) (n % 2 ^ 12)))

-- an access to two bytes
abbrev pub half_of : ℕ → Inst
half_of n =
    if n / 2 ^ 20 % 2 == 0
    then Strh (condition_of (n / 2 ^ 28)) (field n 12) (field n 16) (field n 8 * 2 ^ 4 + field n 0)
    else Ldrh (condition_of (n / 2 ^ 28)) (field n 12) (field n 16) (field n 8 * 2 ^ 4 + field n 0)

-- a division, an extension, RBIT or UDF, by bits 24 to 20
abbrev pub media_of : ℕ → Inst
media_of n =
    if n / 2 ^ 20 % 32 == 0x11 then Sdiv (condition_of (n / 2 ^ 28)) (field n 16) (field n 0) (field n 8)
    else (if n / 2 ^ 20 % 32 == 0x13 then Udiv (condition_of (n / 2 ^ 28)) (field n 16) (field n 0) (field n 8)
    else (if n / 2 ^ 20 % 32 == 0x0a then Sxtb (condition_of (n / 2 ^ 28)) (field n 12) (field n 0)
    else (if n / 2 ^ 20 % 32 == 0x0b then Sxth (condition_of (n / 2 ^ 28)) (field n 12) (field n 0)
    else (if n / 2 ^ 20 % 32 == 0x0e then Uxtb (condition_of (n / 2 ^ 28)) (field n 12) (field n 0)
    else (if n / 2 ^ 20 % 32 == 0x0f
    then (if n / 2 ^ 6 % 2 == 0 then Rbit (condition_of (n / 2 ^ 28)) (field n 12) (field n 0) else Uxth (condition_of (n / 2 ^ 28)) (field n 12) (field n 0))
    else Udf (n / 2 ^ 8 % 2 ^ 12 * 2 ^ 4 + field n 0))))))

-- B or BL
abbrev pub branch_of : ℕ → Inst
branch_of n =
    if n / 2 ^ 24 % 2 == 0 then B (condition_of (n / 2 ^ 28)) (signed 24 n) else Bl (condition_of (n / 2 ^ 28)) (signed 24 n)

-- the instruction of a group at a word's fields, with no look at the other bits and at limits
abbrev pub read_as : Group → ℕ → Inst
read_as G.Data n = data_of n
read_as G.Move n = move_of n
read_as G.Test n = test_of n
read_as G.Wide n = wide_of n
read_as G.Multiply n = multiply_of n
read_as G.Miscellaneous n = miscellaneous_of n
read_as G.Memory n = memory_of n
read_as G.Half n = half_of n
read_as G.Media n = media_of n
read_as G.Branch n = branch_of n

-- the fields of a word, read as those of its group
unfoldable pub reading : ℕ → Inst
reading n = read_as (group_at (n / 2 ^ 20 % 256) (n / 2 ^ 4 % 16)) n

-- the word is n
abbrev pub is_word : Option ℕ → ℕ → Bool
is_word None n = false
is_word (Some word) n = word == n

-- the instruction whose word this is, if there is one
unfoldable pub decoding : ℕ → Option Inst
decoding n = if is_word (encoding (reading n)) n then Some (reading n) else None
