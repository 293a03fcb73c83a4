-- The words of the instructions, as sums of the fields of ARMv7-A's A32 encodings.
use Rattle.std.specs.Prelude.{ℕ, ℤ, ◌+◌, ◌*◌, ◌/◌, ◌%◌, ◌^◌, Bool, true, false, nat_lt, ◌&&◌, if◌then◌else◌, Option, Some, None}
use Rattle.bk_num.specs.Word.{fits_signed, residue}
use Rattle.bk_arm_isa.specs.declared.Condition.{Condition}
use Rattle.bk_arm_isa.specs.declared.Condition.TheVariants.{Eq, Ne, Cs, Cc, Mi, Pl, Vs, Vc, Hi, Ls, Ge, Lt, Gt, Le, Al}
use Rattle.bk_arm_isa.specs.declared.DataOp.{DataOp}
use Rattle.bk_arm_isa.specs.declared.DataOp.TheVariants.{And, Eor, Sub, Rsb, Add, Adc, Sbc, Rsc, Orr, Bic}
use Rattle.bk_arm_isa.specs.declared.MoveOp.{MoveOp}
use Rattle.bk_arm_isa.specs.declared.MoveOp.TheVariants.{Mov, Mvn}
use Rattle.bk_arm_isa.specs.declared.TestOp.{TestOp}
use Rattle.bk_arm_isa.specs.declared.TestOp.TheVariants.{Tst, Teq, Cmp, Cmn}
use Rattle.bk_arm_isa.specs.declared.Shift.{Shift}
use Rattle.bk_arm_isa.specs.declared.Shift.TheVariants.{Lsl, Lsr, Asr, Ror}
use Rattle.bk_arm_isa.specs.declared.Operand2.{Operand2}
use Rattle.bk_arm_isa.specs.declared.Operand2.TheVariants.{Immediate, ShiftImmediate, ShiftRegister}
use Rattle.bk_arm_isa.specs.declared.Inst.{Inst}
use Rattle.bk_arm_isa.specs.declared.Inst.TheVariants.{Data, Move, Test, Movw, Movt, Mul, Mls, Umull, Smull, Sdiv, Udiv, Clz, Rbit, Sxtb, Sxth, Uxtb, Uxth, Ldr, Str, Ldrb, Strb, Ldrh, Strh, B, Bl, Bx, Udf}

-- the condition field, bits 31 to 28
abbrev pub condition_number : Condition → ℕ
condition_number Eq = 0
condition_number Ne = 1
condition_number Cs = 2
condition_number Cc = 3
condition_number Mi = 4
condition_number Pl = 5
condition_number Vs = 6
condition_number Vc = 7
condition_number Hi = 8
condition_number Ls = 9
condition_number Ge = 10
condition_number Lt = 11
condition_number Gt = 12
condition_number Le = 13
condition_number Al = 14

-- the opcode field of data processing, bits 24 to 21
abbrev pub data_opcode : DataOp → ℕ
data_opcode And = 0
data_opcode Eor = 1
data_opcode Sub = 2
data_opcode Rsb = 3
data_opcode Add = 4
data_opcode Adc = 5
data_opcode Sbc = 6
data_opcode Rsc = 7
data_opcode Orr = 12
data_opcode Bic = 14

-- the same of MOV and MVN
abbrev pub move_opcode : MoveOp → ℕ
move_opcode Mov = 13
move_opcode Mvn = 15

-- the same of the tests
abbrev pub test_opcode : TestOp → ℕ
test_opcode Tst = 8
test_opcode Teq = 9
test_opcode Cmp = 10
test_opcode Cmn = 11

-- the type field of a shift, bits 6 and 5
abbrev pub shift_number : Shift → ℕ
shift_number Lsl = 0
shift_number Lsr = 1
shift_number Asr = 2
shift_number Ror = 3

-- the base word with a condition, and with registers at bits 16, 12, 8 and 0, none where one is R15 or no register
abbrev pub placed : Condition → ℕ → ℕ → ℕ → ℕ → ℕ → Option ℕ
placed c base r16 r12 r8 r0 =
    if nat_lt r16 15 && (nat_lt r12 15 && (nat_lt r8 15 && nat_lt r0 15))
    then Some (condition_number c * 2 ^ 28 + base + (r16 * 2 ^ 16 + r12 * 2 ^ 12 + r8 * 2 ^ 8 + r0))
    else None

-- the amount of a shift: 1 to 31, or LSL 0
abbrev pub is_amount : Shift → ℕ → Bool
is_amount Lsl imm5 = nat_lt imm5 32
is_amount Lsr imm5 = nat_lt 0 imm5 && nat_lt imm5 32
is_amount Asr imm5 = nat_lt 0 imm5 && nat_lt imm5 32
is_amount Ror imm5 = nat_lt 0 imm5 && nat_lt imm5 32

-- data processing by an opcode with the bit S after it
abbrev pub processed : Condition → ℕ → ℕ → ℕ → Operand2 → Option ℕ
processed c opcode rn rd (Immediate imm8 rotation) =
    if nat_lt imm8 256 && nat_lt rotation 16 then placed c (opcode * 2 ^ 20 + 2 ^ 25 + (rotation * 2 ^ 8 + imm8)) rn rd 0 0 else None
processed c opcode rn rd (ShiftImmediate rm shift imm5) =
    if is_amount shift imm5 then placed c (opcode * 2 ^ 20 + (imm5 * 2 ^ 7 + shift_number shift * 2 ^ 5)) rn rd 0 rm else None
processed c opcode rn rd (ShiftRegister rm shift rs) =
    placed c (opcode * 2 ^ 20 + 2 ^ 4 + shift_number shift * 2 ^ 5) rn rd rs rm

-- TST and TEQ take operands that leave the carry as it is
abbrev pub keeps_carry : Operand2 → Bool
keeps_carry (Immediate imm8 rotation) = nat_lt rotation 1
keeps_carry (ShiftImmediate rm Lsl imm5) = nat_lt imm5 1
keeps_carry (ShiftImmediate rm Lsr imm5) = false
keeps_carry (ShiftImmediate rm Asr imm5) = false
keeps_carry (ShiftImmediate rm Ror imm5) = false
keeps_carry (ShiftRegister rm shift rs) = false

-- the operands of each test
abbrev pub takes : TestOp → Operand2 → Bool
takes Tst o = keeps_carry o
takes Teq o = keeps_carry o
takes Cmp o = true
takes Cmn o = true

-- a test, which has S set
abbrev pub compared : Condition → TestOp → ℕ → Operand2 → Option ℕ
compared c op rn o = if takes op o then processed c (test_opcode op * 2 + 1) rn 0 o else None

-- a move of 16 bits, in fields of 4 and 12
abbrev pub wide : Condition → ℕ → ℕ → ℕ → Option ℕ
wide c base rd imm16 =
    if nat_lt imm16 (2 ^ 16) then placed c (base + imm16 / 2 ^ 12 * 2 ^ 16 + imm16 % 2 ^ 12) 0 rd 0 0 else None

-- an access at rn + imm12
abbrev pub memory : Condition → ℕ → ℕ → ℕ → ℕ → Option ℕ
memory c base rt rn imm12 = if nat_lt imm12 (2 ^ 12) then placed c (base + imm12) rn rt 0 0 else None

-- an access of two bytes at rn + imm8, in fields of 4 and 4
abbrev pub half : Condition → ℕ → ℕ → ℕ → ℕ → Option ℕ
half c base rt rn imm8 =
    if nat_lt imm8 (2 ^ 8) then placed c (base + imm8 / 2 ^ 4 * 2 ^ 8 + imm8 % 2 ^ 4) rn rt 0 0 else None

-- a branch by a signed number of words
abbrev pub branch : Condition → ℕ → ℤ → Option ℕ
branch c base imm24 = if fits_signed 24 imm24 then placed c (base + residue 24 imm24) 0 0 0 0 else None

-- under condition 14 alone
abbrev pub undefined : ℕ → Option ℕ
undefined imm16 = if nat_lt imm16 (2 ^ 16) then Some (0xe7f000f0 + imm16 / 2 ^ 4 * 2 ^ 8 + imm16 % 2 ^ 4) else None

-- the word of an instruction, none where a field does not fit
abbrev pub encoding : Inst → Option ℕ
encoding (Data c op rd rn o) = processed c (data_opcode op * 2) rn rd o
encoding (Move c op rd o) = processed c (move_opcode op * 2) 0 rd o
encoding (Test c op rn o) = compared c op rn o
encoding (Movw c rd imm16) = wide c 0x03000000 rd imm16
encoding (Movt c rd imm16) = wide c 0x03400000 rd imm16
encoding (Mul c rd rn rm) = placed c 0x00000090 rd 0 rm rn
encoding (Mls c rd rn rm ra) = placed c 0x00600090 rd ra rm rn
encoding (Umull c rd_lo rd_hi rn rm) = placed c 0x00800090 rd_hi rd_lo rm rn
encoding (Smull c rd_lo rd_hi rn rm) = placed c 0x00c00090 rd_hi rd_lo rm rn
encoding (Sdiv c rd rn rm) = placed c 0x0710f010 rd 0 rm rn
encoding (Udiv c rd rn rm) = placed c 0x0730f010 rd 0 rm rn
encoding (Clz c rd rm) = placed c 0x016f0f10 0 rd 0 rm
encoding (Rbit c rd rm) = placed c 0x06ff0f30 0 rd 0 rm
encoding (Sxtb c rd rm) = placed c 0x06af0070 0 rd 0 rm
encoding (Sxth c rd rm) = placed c 0x06bf0070 0 rd 0 rm
encoding (Uxtb c rd rm) = placed c 0x06ef0070 0 rd 0 rm
encoding (Uxth c rd rm) = placed c 0x06ff0070 0 rd 0 rm
encoding (Ldr c rt rn imm12) = memory c 0x05900000 rt rn imm12
encoding (Str c rt rn imm12) = memory c 0x05800000 rt rn imm12
encoding (Ldrb c rt rn imm12) = memory c 0x05d00000 rt rn imm12
encoding (Strb c rt rn imm12) = memory c 0x05c00000 rt rn imm12
encoding (Ldrh c rt rn imm8) = half c 0x01d000b0 rt rn imm8
encoding (Strh c rt rn imm8) = half c 0x01c000b0 rt rn imm8
encoding (B c imm24) = branch c 0x0a000000 imm24
encoding (Bl c imm24) = branch c 0x0b000000 imm24
encoding (Bx c rm) = placed c 0x012fff10 0 0 0 rm
encoding (Udf imm16) = undefined imm16
