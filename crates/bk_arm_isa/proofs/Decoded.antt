-- The instruction of a word is the one that has this word.
use Rattle.std.proofs.Common.{◌≡◌, ℕ, ◌+◌, ◌*◌, ◌/◌, ◌%◌, ◌^◌, ◌<◌, ◌≤◌, arith, refl, Bool, true, false, cond, IsTrue, ℤ, Some, None, Option, ap, sym, ◌∙◌}
use Rattle.std.specs.Prelude.{nat_lt, ◌&&◌}
use Rattle.std.proofs.lemmas.Bool.Decides.{nat_tests}
use Rattle.std.proofs.Math.Nat.{mod-eq_of_lt}
use Rattle.bk_num.specs.Word.{residue, fits_signed, signed}
use Rattle.bk_num.proofs.Signs.{residue_below, signed_residue}
use Rattle.bk_arm_isa.specs.declared.Condition.{Condition}
use Rattle.bk_arm_isa.specs.declared.DataOp.{DataOp}
use Rattle.bk_arm_isa.specs.declared.DataOp.TheVariants.{And, Eor, Sub, Rsb, Add, Adc, Sbc, Rsc, Orr, Bic}
use Rattle.bk_arm_isa.specs.declared.MoveOp.{MoveOp}
use Rattle.bk_arm_isa.specs.declared.MoveOp.TheVariants.{Mov, Mvn}
use Rattle.bk_arm_isa.specs.declared.TestOp.{TestOp}
use Rattle.bk_arm_isa.specs.declared.TestOp.TheVariants.{Tst, Teq, Cmp, Cmn}
use Rattle.bk_arm_isa.specs.declared.Inst.{Inst}
use Rattle.bk_arm_isa.specs.declared.Inst.TheVariants.{Data, Move, Test, Movw, Movt, Mul, Mls, Umull, Smull, Sdiv, Udiv, Clz, Rbit, Sxtb, Sxth, Uxtb, Uxth, Ldr, Str, Ldrb, Strb, Ldrh, Strh, B, Bl, Bx, Udf}
use Rattle.bk_arm_isa.specs.declared.Condition.TheVariants.{Eq, Ne, Cs, Cc, Mi, Pl, Vs, Vc, Hi, Ls, Ge, Lt, Gt, Le, Al}
use Rattle.bk_arm_isa.specs.declared.Shift.{Shift}
use Rattle.bk_arm_isa.specs.declared.Shift.TheVariants.{Lsl, Lsr, Asr, Ror}
use Rattle.bk_arm_isa.specs.declared.Operand2.{Operand2}
use Rattle.bk_arm_isa.specs.declared.Operand2.TheVariants.{Immediate, ShiftImmediate, ShiftRegister}
use Rattle.bk_arm_isa.specs.Encoding.{condition_number, data_opcode, move_opcode, test_opcode, shift_number, is_amount, placed, processed, takes, encoding}
use Rattle.bk_arm_isa.specs.Decoding.{condition_of, data_op_of, move_op_of, test_op_of, shift_of, operand2_of, read_as, reading, is_word, decoding}
use Rattle.bk_arm_isa.proofs.Fields.{placed_word, chosen, processed_fields, data_opcode_below, shift_below, amount_below}
use Rattle.bk_arm_isa.proofs.Grouped.{group_of, group_is, less, move_opcode_below, test_opcode_below}

condition_back : (x : Condition) → condition_of (condition_number x) ≡ x
condition_back Eq = refl
condition_back Ne = refl
condition_back Cs = refl
condition_back Cc = refl
condition_back Mi = refl
condition_back Pl = refl
condition_back Vs = refl
condition_back Vc = refl
condition_back Hi = refl
condition_back Ls = refl
condition_back Ge = refl
condition_back Lt = refl
condition_back Gt = refl
condition_back Le = refl
condition_back Al = refl

data_back : (x : DataOp) → data_op_of (data_opcode x) ≡ x
data_back And = refl
data_back Eor = refl
data_back Sub = refl
data_back Rsb = refl
data_back Add = refl
data_back Adc = refl
data_back Sbc = refl
data_back Rsc = refl
data_back Orr = refl
data_back Bic = refl

move_back : (x : MoveOp) → move_op_of (move_opcode x) ≡ x
move_back Mov = refl
move_back Mvn = refl

test_back : (x : TestOp) → test_op_of (test_opcode x) ≡ x
test_back Tst = refl
test_back Teq = refl
test_back Cmp = refl
test_back Cmn = refl

shift_back : (x : Shift) → shift_of (shift_number x) ≡ x
shift_back Lsl = refl
shift_back Lsr = refl
shift_back Asr = refl
shift_back Ror = refl

condition_is : (c : Condition) (k : ℕ) → k ≡ condition_number c → condition_of k ≡ c
condition_is c k e = ap condition_of e ∙ condition_back c

operand2_is : (c : Condition) (opcode rn rd : ℕ) (o : Operand2) (n : ℕ) → opcode < 32 → processed c opcode rn rd o ≡ Some n → operand2_of n ≡ o
operand2_is c opcode rn rd (Immediate imm8 rotation) n l e =
    let a = chosen (nat_lt imm8 256 && nat_lt rotation 16) (placed c (opcode * 2 ^ 20 + 2 ^ 25 + (rotation * 2 ^ 8 + imm8)) rn rd 0 0) n e in
    let i : imm8 < 256 = let t = a.0 in grind (arith, nat_tests) in
    let r : rotation < 16 = let t = a.0 in grind (arith, nat_tests) in
    let p = placed_word c (opcode * 2 ^ 20 + 2 ^ 25 + (rotation * 2 ^ 8 + imm8)) rn rd 0 0 n a.1 in
    let bit : n / 2 ^ 25 % 2 ≡ 1 = omega (arith, p.word, p.r16_below, p.r12_below) in
    let low : n % 256 ≡ imm8 = omega (arith, p.word, p.r16_below, p.r12_below) in
    let high : n / 2 ^ 8 % 16 ≡ rotation = omega (arith, p.word, p.r16_below, p.r12_below) in
    rw (bit, low, high) refl
operand2_is c opcode rn rd (ShiftImmediate rm shift imm5) n l e =
    let a = chosen (is_amount shift imm5) (placed c (opcode * 2 ^ 20 + (imm5 * 2 ^ 7 + shift_number shift * 2 ^ 5)) rn rd 0 rm) n e in
    let i : imm5 < 32 = amount_below shift imm5 a.0 in
    let s : shift_number shift < 4 = shift_below shift in
    let p = placed_word c (opcode * 2 ^ 20 + (imm5 * 2 ^ 7 + shift_number shift * 2 ^ 5)) rn rd 0 rm n a.1 in
    let bit : n / 2 ^ 25 % 2 ≡ 0 = omega (arith, p.word, p.r16_below, p.r12_below, p.r0_below) in
    let by : n / 2 ^ 4 % 2 ≡ 0 = omega (arith, p.word, p.r16_below, p.r12_below, p.r0_below) in
    let kind : n / 2 ^ 5 % 4 ≡ shift_number shift = omega (arith, p.word, p.r16_below, p.r12_below, p.r0_below) in
    let low : n / 2 ^ 0 % 16 ≡ rm = omega (arith, p.word, p.r16_below, p.r12_below, p.r0_below) in
    let amount : n / 2 ^ 7 % 32 ≡ imm5 = omega (arith, p.word, p.r16_below, p.r12_below, p.r0_below) in
    rw (bit, by, kind, low, amount, shift_back shift) refl
operand2_is c opcode rn rd (ShiftRegister rm shift rs) n l e =
    let s : shift_number shift < 4 = shift_below shift in
    let p = placed_word c (opcode * 2 ^ 20 + 2 ^ 4 + shift_number shift * 2 ^ 5) rn rd rs rm n e in
    let bit : n / 2 ^ 25 % 2 ≡ 0 = omega (arith, p.word, p.r16_below, p.r12_below, p.r8_below, p.r0_below) in
    let by : n / 2 ^ 4 % 2 ≡ 1 = omega (arith, p.word, p.r16_below, p.r12_below, p.r8_below, p.r0_below) in
    let kind : n / 2 ^ 5 % 4 ≡ shift_number shift = omega (arith, p.word, p.r16_below, p.r12_below, p.r8_below, p.r0_below) in
    let low : n / 2 ^ 0 % 16 ≡ rm = omega (arith, p.word, p.r16_below, p.r12_below, p.r8_below, p.r0_below) in
    let high : n / 2 ^ 8 % 16 ≡ rs = omega (arith, p.word, p.r16_below, p.r12_below, p.r8_below, p.r0_below) in
    rw (bit, by, kind, low, high, shift_back shift) refl

branch_fields : (r n c b : ℕ) → r < 2 ^ 24 → c < 15 → n ≡ c * 2 ^ 28 + b * 2 ^ 24 + r → b < 16 → (n / 2 ^ 28 ≡ c) × (n / 2 ^ 24 % 2 ≡ b % 2) × (n % 2 ^ 24 ≡ r)
branch_fields r n c b l m w h = (omega arith, omega arith, omega arith)

signed_same : (w m n : ℕ) → m % 2 ^ w ≡ n % 2 ^ w → signed w m ≡ signed w n
signed_same w m n e = rw e refl

-- the signed number at the bits of its residue
signed_as : (w n : ℕ) (z : ℤ) → 1 ≤ w → IsTrue (fits_signed w z) → n % 2 ^ w ≡ residue w z → signed w n ≡ z
signed_as w n z h f e = signed_same w n (residue w z) (e ∙ sym (mod-eq_of_lt (residue_below w z))) ∙ signed_residue w z h f

-- the fields of an instruction's word, read as those of its group, are the instruction's
reads : (i : Inst) (n : ℕ) → encoding i ≡ Some n → read_as (group_of i) n ≡ i
reads (Data c op rd rn o) n e =
    let below : data_opcode op < 16 = data_opcode_below op in
    let p = processed_fields c (data_opcode op * 2) rn rd o n (omega arith) e in
    let code : n / 2 ^ 21 % 16 ≡ data_opcode op = omega (arith, p.opcode_is) in
    rw (condition_is c (n / 2 ^ 28) (sym p.condition), code, data_back op, p.rd_is, p.rn_is, operand2_is c (data_opcode op * 2) rn rd o n (omega arith) e) refl
reads (Move c op rd o) n e =
    let below : move_opcode op < 16 = move_opcode_below op in
    let p = processed_fields c (move_opcode op * 2) 0 rd o n (omega arith) e in
    let code : n / 2 ^ 21 % 16 ≡ move_opcode op = omega (arith, p.opcode_is) in
    rw (condition_is c (n / 2 ^ 28) (sym p.condition), code, move_back op, p.rd_is, operand2_is c (move_opcode op * 2) 0 rd o n (omega arith) e) refl
reads (Test c op rn o) n e =
    let below : test_opcode op < 16 = test_opcode_below op in
    let a = chosen (takes op o) (processed c (test_opcode op * 2 + 1) rn 0 o) n e in
    let p = processed_fields c (test_opcode op * 2 + 1) rn 0 o n (omega arith) a.1 in
    let code : n / 2 ^ 21 % 16 ≡ test_opcode op = omega (arith, p.opcode_is) in
    rw (condition_is c (n / 2 ^ 28) (sym p.condition), code, test_back op, p.rn_is, operand2_is c (test_opcode op * 2 + 1) rn 0 o n (omega arith) a.1) refl
reads (Movw c rd imm16) n e =
    let a = chosen (nat_lt imm16 (2 ^ 16)) (placed c (0x03000000 + imm16 / 2 ^ 12 * 2 ^ 16 + imm16 % 2 ^ 12) 0 rd 0 0) n e in
    let l : imm16 < 2 ^ 16 = less imm16 (2 ^ 16) a.0 in
    let p = placed_word c (0x03000000 + imm16 / 2 ^ 12 * 2 ^ 16 + imm16 % 2 ^ 12) 0 rd 0 0 n a.1 in
    let kind : n / 2 ^ 22 % 2 ≡ 0 = omega (arith, p.condition, p.word, p.r16_below, p.r12_below, p.r8_below, p.r0_below) in
    let at_12 : n / 2 ^ 12 % 16 ≡ rd = omega (arith, p.condition, p.word, p.r16_below, p.r12_below, p.r8_below, p.r0_below) in
    let immediate : n / 2 ^ 16 % 16 * 2 ^ 12 + n % 2 ^ 12 ≡ imm16 = omega (arith, p.condition, p.word, p.r16_below, p.r12_below, p.r8_below, p.r0_below) in
    rw (condition_is c (n / 2 ^ 28) (omega (arith, p.condition, p.word, p.r16_below, p.r12_below, p.r8_below, p.r0_below)), kind, at_12, immediate) refl
reads (Movt c rd imm16) n e =
    let a = chosen (nat_lt imm16 (2 ^ 16)) (placed c (0x03400000 + imm16 / 2 ^ 12 * 2 ^ 16 + imm16 % 2 ^ 12) 0 rd 0 0) n e in
    let l : imm16 < 2 ^ 16 = less imm16 (2 ^ 16) a.0 in
    let p = placed_word c (0x03400000 + imm16 / 2 ^ 12 * 2 ^ 16 + imm16 % 2 ^ 12) 0 rd 0 0 n a.1 in
    let kind : n / 2 ^ 22 % 2 ≡ 1 = omega (arith, p.condition, p.word, p.r16_below, p.r12_below, p.r8_below, p.r0_below) in
    let at_12 : n / 2 ^ 12 % 16 ≡ rd = omega (arith, p.condition, p.word, p.r16_below, p.r12_below, p.r8_below, p.r0_below) in
    let immediate : n / 2 ^ 16 % 16 * 2 ^ 12 + n % 2 ^ 12 ≡ imm16 = omega (arith, p.condition, p.word, p.r16_below, p.r12_below, p.r8_below, p.r0_below) in
    rw (condition_is c (n / 2 ^ 28) (omega (arith, p.condition, p.word, p.r16_below, p.r12_below, p.r8_below, p.r0_below)), kind, at_12, immediate) refl
reads (Mul c rd rn rm) n e =
    let p = placed_word c (0x00000090) rd 0 rm rn n e in
    let kind : n / 2 ^ 20 % 16 ≡ 0 = omega (arith, p.condition, p.word, p.r16_below, p.r12_below, p.r8_below, p.r0_below) in
    let at_16 : n / 2 ^ 16 % 16 ≡ rd = omega (arith, p.condition, p.word, p.r16_below, p.r12_below, p.r8_below, p.r0_below) in
    let at_0 : n / 2 ^ 0 % 16 ≡ rn = omega (arith, p.condition, p.word, p.r16_below, p.r12_below, p.r8_below, p.r0_below) in
    let at_8 : n / 2 ^ 8 % 16 ≡ rm = omega (arith, p.condition, p.word, p.r16_below, p.r12_below, p.r8_below, p.r0_below) in
    rw (condition_is c (n / 2 ^ 28) (omega (arith, p.condition, p.word, p.r16_below, p.r12_below, p.r8_below, p.r0_below)), kind, at_16, at_0, at_8) refl
reads (Mls c rd rn rm ra) n e =
    let p = placed_word c (0x00600090) rd ra rm rn n e in
    let kind : n / 2 ^ 20 % 16 ≡ 6 = omega (arith, p.condition, p.word, p.r16_below, p.r12_below, p.r8_below, p.r0_below) in
    let at_16 : n / 2 ^ 16 % 16 ≡ rd = omega (arith, p.condition, p.word, p.r16_below, p.r12_below, p.r8_below, p.r0_below) in
    let at_0 : n / 2 ^ 0 % 16 ≡ rn = omega (arith, p.condition, p.word, p.r16_below, p.r12_below, p.r8_below, p.r0_below) in
    let at_8 : n / 2 ^ 8 % 16 ≡ rm = omega (arith, p.condition, p.word, p.r16_below, p.r12_below, p.r8_below, p.r0_below) in
    let at_12 : n / 2 ^ 12 % 16 ≡ ra = omega (arith, p.condition, p.word, p.r16_below, p.r12_below, p.r8_below, p.r0_below) in
    rw (condition_is c (n / 2 ^ 28) (omega (arith, p.condition, p.word, p.r16_below, p.r12_below, p.r8_below, p.r0_below)), kind, at_16, at_0, at_8, at_12) refl
reads (Umull c rd_lo rd_hi rn rm) n e =
    let p = placed_word c (0x00800090) rd_hi rd_lo rm rn n e in
    let kind : n / 2 ^ 20 % 16 ≡ 8 = omega (arith, p.condition, p.word, p.r16_below, p.r12_below, p.r8_below, p.r0_below) in
    let at_12 : n / 2 ^ 12 % 16 ≡ rd_lo = omega (arith, p.condition, p.word, p.r16_below, p.r12_below, p.r8_below, p.r0_below) in
    let at_16 : n / 2 ^ 16 % 16 ≡ rd_hi = omega (arith, p.condition, p.word, p.r16_below, p.r12_below, p.r8_below, p.r0_below) in
    let at_0 : n / 2 ^ 0 % 16 ≡ rn = omega (arith, p.condition, p.word, p.r16_below, p.r12_below, p.r8_below, p.r0_below) in
    let at_8 : n / 2 ^ 8 % 16 ≡ rm = omega (arith, p.condition, p.word, p.r16_below, p.r12_below, p.r8_below, p.r0_below) in
    rw (condition_is c (n / 2 ^ 28) (omega (arith, p.condition, p.word, p.r16_below, p.r12_below, p.r8_below, p.r0_below)), kind, at_12, at_16, at_0, at_8) refl
reads (Smull c rd_lo rd_hi rn rm) n e =
    let p = placed_word c (0x00c00090) rd_hi rd_lo rm rn n e in
    let kind : n / 2 ^ 20 % 16 ≡ 12 = omega (arith, p.condition, p.word, p.r16_below, p.r12_below, p.r8_below, p.r0_below) in
    let at_12 : n / 2 ^ 12 % 16 ≡ rd_lo = omega (arith, p.condition, p.word, p.r16_below, p.r12_below, p.r8_below, p.r0_below) in
    let at_16 : n / 2 ^ 16 % 16 ≡ rd_hi = omega (arith, p.condition, p.word, p.r16_below, p.r12_below, p.r8_below, p.r0_below) in
    let at_0 : n / 2 ^ 0 % 16 ≡ rn = omega (arith, p.condition, p.word, p.r16_below, p.r12_below, p.r8_below, p.r0_below) in
    let at_8 : n / 2 ^ 8 % 16 ≡ rm = omega (arith, p.condition, p.word, p.r16_below, p.r12_below, p.r8_below, p.r0_below) in
    rw (condition_is c (n / 2 ^ 28) (omega (arith, p.condition, p.word, p.r16_below, p.r12_below, p.r8_below, p.r0_below)), kind, at_12, at_16, at_0, at_8) refl
reads (Sdiv c rd rn rm) n e =
    let p = placed_word c (0x0710f010) rd 0 rm rn n e in
    let kind : n / 2 ^ 20 % 32 ≡ 0x11 = omega (arith, p.condition, p.word, p.r16_below, p.r12_below, p.r8_below, p.r0_below) in
    let at_16 : n / 2 ^ 16 % 16 ≡ rd = omega (arith, p.condition, p.word, p.r16_below, p.r12_below, p.r8_below, p.r0_below) in
    let at_0 : n / 2 ^ 0 % 16 ≡ rn = omega (arith, p.condition, p.word, p.r16_below, p.r12_below, p.r8_below, p.r0_below) in
    let at_8 : n / 2 ^ 8 % 16 ≡ rm = omega (arith, p.condition, p.word, p.r16_below, p.r12_below, p.r8_below, p.r0_below) in
    rw (condition_is c (n / 2 ^ 28) (omega (arith, p.condition, p.word, p.r16_below, p.r12_below, p.r8_below, p.r0_below)), kind, at_16, at_0, at_8) refl
reads (Udiv c rd rn rm) n e =
    let p = placed_word c (0x0730f010) rd 0 rm rn n e in
    let kind : n / 2 ^ 20 % 32 ≡ 0x13 = omega (arith, p.condition, p.word, p.r16_below, p.r12_below, p.r8_below, p.r0_below) in
    let at_16 : n / 2 ^ 16 % 16 ≡ rd = omega (arith, p.condition, p.word, p.r16_below, p.r12_below, p.r8_below, p.r0_below) in
    let at_0 : n / 2 ^ 0 % 16 ≡ rn = omega (arith, p.condition, p.word, p.r16_below, p.r12_below, p.r8_below, p.r0_below) in
    let at_8 : n / 2 ^ 8 % 16 ≡ rm = omega (arith, p.condition, p.word, p.r16_below, p.r12_below, p.r8_below, p.r0_below) in
    rw (condition_is c (n / 2 ^ 28) (omega (arith, p.condition, p.word, p.r16_below, p.r12_below, p.r8_below, p.r0_below)), kind, at_16, at_0, at_8) refl
reads (Clz c rd rm) n e =
    let p = placed_word c (0x016f0f10) 0 rd 0 rm n e in
    let kind : n / 2 ^ 22 % 2 ≡ 1 = omega (arith, p.condition, p.word, p.r16_below, p.r12_below, p.r8_below, p.r0_below) in
    let at_12 : n / 2 ^ 12 % 16 ≡ rd = omega (arith, p.condition, p.word, p.r16_below, p.r12_below, p.r8_below, p.r0_below) in
    let at_0 : n / 2 ^ 0 % 16 ≡ rm = omega (arith, p.condition, p.word, p.r16_below, p.r12_below, p.r8_below, p.r0_below) in
    rw (condition_is c (n / 2 ^ 28) (omega (arith, p.condition, p.word, p.r16_below, p.r12_below, p.r8_below, p.r0_below)), kind, at_12, at_0) refl
reads (Rbit c rd rm) n e =
    let p = placed_word c (0x06ff0f30) 0 rd 0 rm n e in
    let kind : n / 2 ^ 20 % 32 ≡ 0x0f = omega (arith, p.condition, p.word, p.r16_below, p.r12_below, p.r8_below, p.r0_below) in
    let low : n / 2 ^ 6 % 2 ≡ 0 = omega (arith, p.condition, p.word, p.r16_below, p.r12_below, p.r8_below, p.r0_below) in
    let at_12 : n / 2 ^ 12 % 16 ≡ rd = omega (arith, p.condition, p.word, p.r16_below, p.r12_below, p.r8_below, p.r0_below) in
    let at_0 : n / 2 ^ 0 % 16 ≡ rm = omega (arith, p.condition, p.word, p.r16_below, p.r12_below, p.r8_below, p.r0_below) in
    rw (condition_is c (n / 2 ^ 28) (omega (arith, p.condition, p.word, p.r16_below, p.r12_below, p.r8_below, p.r0_below)), kind, low, at_12, at_0) refl
reads (Sxtb c rd rm) n e =
    let p = placed_word c (0x06af0070) 0 rd 0 rm n e in
    let kind : n / 2 ^ 20 % 32 ≡ 0x0a = omega (arith, p.condition, p.word, p.r16_below, p.r12_below, p.r8_below, p.r0_below) in
    let at_12 : n / 2 ^ 12 % 16 ≡ rd = omega (arith, p.condition, p.word, p.r16_below, p.r12_below, p.r8_below, p.r0_below) in
    let at_0 : n / 2 ^ 0 % 16 ≡ rm = omega (arith, p.condition, p.word, p.r16_below, p.r12_below, p.r8_below, p.r0_below) in
    rw (condition_is c (n / 2 ^ 28) (omega (arith, p.condition, p.word, p.r16_below, p.r12_below, p.r8_below, p.r0_below)), kind, at_12, at_0) refl
reads (Sxth c rd rm) n e =
    let p = placed_word c (0x06bf0070) 0 rd 0 rm n e in
    let kind : n / 2 ^ 20 % 32 ≡ 0x0b = omega (arith, p.condition, p.word, p.r16_below, p.r12_below, p.r8_below, p.r0_below) in
    let at_12 : n / 2 ^ 12 % 16 ≡ rd = omega (arith, p.condition, p.word, p.r16_below, p.r12_below, p.r8_below, p.r0_below) in
    let at_0 : n / 2 ^ 0 % 16 ≡ rm = omega (arith, p.condition, p.word, p.r16_below, p.r12_below, p.r8_below, p.r0_below) in
    rw (condition_is c (n / 2 ^ 28) (omega (arith, p.condition, p.word, p.r16_below, p.r12_below, p.r8_below, p.r0_below)), kind, at_12, at_0) refl
reads (Uxtb c rd rm) n e =
    let p = placed_word c (0x06ef0070) 0 rd 0 rm n e in
    let kind : n / 2 ^ 20 % 32 ≡ 0x0e = omega (arith, p.condition, p.word, p.r16_below, p.r12_below, p.r8_below, p.r0_below) in
    let at_12 : n / 2 ^ 12 % 16 ≡ rd = omega (arith, p.condition, p.word, p.r16_below, p.r12_below, p.r8_below, p.r0_below) in
    let at_0 : n / 2 ^ 0 % 16 ≡ rm = omega (arith, p.condition, p.word, p.r16_below, p.r12_below, p.r8_below, p.r0_below) in
    rw (condition_is c (n / 2 ^ 28) (omega (arith, p.condition, p.word, p.r16_below, p.r12_below, p.r8_below, p.r0_below)), kind, at_12, at_0) refl
reads (Uxth c rd rm) n e =
    let p = placed_word c (0x06ff0070) 0 rd 0 rm n e in
    let kind : n / 2 ^ 20 % 32 ≡ 0x0f = omega (arith, p.condition, p.word, p.r16_below, p.r12_below, p.r8_below, p.r0_below) in
    let low : n / 2 ^ 6 % 2 ≡ 1 = omega (arith, p.condition, p.word, p.r16_below, p.r12_below, p.r8_below, p.r0_below) in
    let at_12 : n / 2 ^ 12 % 16 ≡ rd = omega (arith, p.condition, p.word, p.r16_below, p.r12_below, p.r8_below, p.r0_below) in
    let at_0 : n / 2 ^ 0 % 16 ≡ rm = omega (arith, p.condition, p.word, p.r16_below, p.r12_below, p.r8_below, p.r0_below) in
    rw (condition_is c (n / 2 ^ 28) (omega (arith, p.condition, p.word, p.r16_below, p.r12_below, p.r8_below, p.r0_below)), kind, low, at_12, at_0) refl
reads (Ldr c rt rn imm12) n e =
    let a = chosen (nat_lt imm12 (2 ^ 12)) (placed c (0x05900000 + imm12) rn rt 0 0) n e in
    let l : imm12 < 2 ^ 12 = less imm12 (2 ^ 12) a.0 in
    let p = placed_word c (0x05900000 + imm12) rn rt 0 0 n a.1 in
    let kind : n / 2 ^ 20 % 8 ≡ 1 = omega (arith, p.condition, p.word, p.r16_below, p.r12_below, p.r8_below, p.r0_below) in
    let at_12 : n / 2 ^ 12 % 16 ≡ rt = omega (arith, p.condition, p.word, p.r16_below, p.r12_below, p.r8_below, p.r0_below) in
    let at_16 : n / 2 ^ 16 % 16 ≡ rn = omega (arith, p.condition, p.word, p.r16_below, p.r12_below, p.r8_below, p.r0_below) in
    let immediate : n % 2 ^ 12 ≡ imm12 = omega (arith, p.condition, p.word, p.r16_below, p.r12_below, p.r8_below, p.r0_below) in
    rw (condition_is c (n / 2 ^ 28) (omega (arith, p.condition, p.word, p.r16_below, p.r12_below, p.r8_below, p.r0_below)), kind, at_12, at_16, immediate) refl
reads (Str c rt rn imm12) n e =
    let a = chosen (nat_lt imm12 (2 ^ 12)) (placed c (0x05800000 + imm12) rn rt 0 0) n e in
    let l : imm12 < 2 ^ 12 = less imm12 (2 ^ 12) a.0 in
    let p = placed_word c (0x05800000 + imm12) rn rt 0 0 n a.1 in
    let kind : n / 2 ^ 20 % 8 ≡ 0 = omega (arith, p.condition, p.word, p.r16_below, p.r12_below, p.r8_below, p.r0_below) in
    let at_12 : n / 2 ^ 12 % 16 ≡ rt = omega (arith, p.condition, p.word, p.r16_below, p.r12_below, p.r8_below, p.r0_below) in
    let at_16 : n / 2 ^ 16 % 16 ≡ rn = omega (arith, p.condition, p.word, p.r16_below, p.r12_below, p.r8_below, p.r0_below) in
    let immediate : n % 2 ^ 12 ≡ imm12 = omega (arith, p.condition, p.word, p.r16_below, p.r12_below, p.r8_below, p.r0_below) in
    rw (condition_is c (n / 2 ^ 28) (omega (arith, p.condition, p.word, p.r16_below, p.r12_below, p.r8_below, p.r0_below)), kind, at_12, at_16, immediate) refl
reads (Ldrb c rt rn imm12) n e =
    let a = chosen (nat_lt imm12 (2 ^ 12)) (placed c (0x05d00000 + imm12) rn rt 0 0) n e in
    let l : imm12 < 2 ^ 12 = less imm12 (2 ^ 12) a.0 in
    let p = placed_word c (0x05d00000 + imm12) rn rt 0 0 n a.1 in
    let kind : n / 2 ^ 20 % 8 ≡ 5 = omega (arith, p.condition, p.word, p.r16_below, p.r12_below, p.r8_below, p.r0_below) in
    let at_12 : n / 2 ^ 12 % 16 ≡ rt = omega (arith, p.condition, p.word, p.r16_below, p.r12_below, p.r8_below, p.r0_below) in
    let at_16 : n / 2 ^ 16 % 16 ≡ rn = omega (arith, p.condition, p.word, p.r16_below, p.r12_below, p.r8_below, p.r0_below) in
    let immediate : n % 2 ^ 12 ≡ imm12 = omega (arith, p.condition, p.word, p.r16_below, p.r12_below, p.r8_below, p.r0_below) in
    rw (condition_is c (n / 2 ^ 28) (omega (arith, p.condition, p.word, p.r16_below, p.r12_below, p.r8_below, p.r0_below)), kind, at_12, at_16, immediate) refl
reads (Strb c rt rn imm12) n e =
    let a = chosen (nat_lt imm12 (2 ^ 12)) (placed c (0x05c00000 + imm12) rn rt 0 0) n e in
    let l : imm12 < 2 ^ 12 = less imm12 (2 ^ 12) a.0 in
    let p = placed_word c (0x05c00000 + imm12) rn rt 0 0 n a.1 in
    let kind : n / 2 ^ 20 % 8 ≡ 4 = omega (arith, p.condition, p.word, p.r16_below, p.r12_below, p.r8_below, p.r0_below) in
    let at_12 : n / 2 ^ 12 % 16 ≡ rt = omega (arith, p.condition, p.word, p.r16_below, p.r12_below, p.r8_below, p.r0_below) in
    let at_16 : n / 2 ^ 16 % 16 ≡ rn = omega (arith, p.condition, p.word, p.r16_below, p.r12_below, p.r8_below, p.r0_below) in
    let immediate : n % 2 ^ 12 ≡ imm12 = omega (arith, p.condition, p.word, p.r16_below, p.r12_below, p.r8_below, p.r0_below) in
    rw (condition_is c (n / 2 ^ 28) (omega (arith, p.condition, p.word, p.r16_below, p.r12_below, p.r8_below, p.r0_below)), kind, at_12, at_16, immediate) refl
reads (Ldrh c rt rn imm8) n e =
    let a = chosen (nat_lt imm8 (2 ^ 8)) (placed c (0x01d000b0 + imm8 / 2 ^ 4 * 2 ^ 8 + imm8 % 2 ^ 4) rn rt 0 0) n e in
    let l : imm8 < 2 ^ 8 = less imm8 (2 ^ 8) a.0 in
    let p = placed_word c (0x01d000b0 + imm8 / 2 ^ 4 * 2 ^ 8 + imm8 % 2 ^ 4) rn rt 0 0 n a.1 in
    let kind : n / 2 ^ 20 % 2 ≡ 1 = omega (arith, p.condition, p.word, p.r16_below, p.r12_below, p.r8_below, p.r0_below) in
    let at_12 : n / 2 ^ 12 % 16 ≡ rt = omega (arith, p.condition, p.word, p.r16_below, p.r12_below, p.r8_below, p.r0_below) in
    let at_16 : n / 2 ^ 16 % 16 ≡ rn = omega (arith, p.condition, p.word, p.r16_below, p.r12_below, p.r8_below, p.r0_below) in
    let immediate : n / 2 ^ 8 % 16 * 2 ^ 4 + n / 2 ^ 0 % 16 ≡ imm8 = omega (arith, p.condition, p.word, p.r16_below, p.r12_below, p.r8_below, p.r0_below) in
    rw (condition_is c (n / 2 ^ 28) (omega (arith, p.condition, p.word, p.r16_below, p.r12_below, p.r8_below, p.r0_below)), kind, at_12, at_16, immediate) refl
reads (Strh c rt rn imm8) n e =
    let a = chosen (nat_lt imm8 (2 ^ 8)) (placed c (0x01c000b0 + imm8 / 2 ^ 4 * 2 ^ 8 + imm8 % 2 ^ 4) rn rt 0 0) n e in
    let l : imm8 < 2 ^ 8 = less imm8 (2 ^ 8) a.0 in
    let p = placed_word c (0x01c000b0 + imm8 / 2 ^ 4 * 2 ^ 8 + imm8 % 2 ^ 4) rn rt 0 0 n a.1 in
    let kind : n / 2 ^ 20 % 2 ≡ 0 = omega (arith, p.condition, p.word, p.r16_below, p.r12_below, p.r8_below, p.r0_below) in
    let at_12 : n / 2 ^ 12 % 16 ≡ rt = omega (arith, p.condition, p.word, p.r16_below, p.r12_below, p.r8_below, p.r0_below) in
    let at_16 : n / 2 ^ 16 % 16 ≡ rn = omega (arith, p.condition, p.word, p.r16_below, p.r12_below, p.r8_below, p.r0_below) in
    let immediate : n / 2 ^ 8 % 16 * 2 ^ 4 + n / 2 ^ 0 % 16 ≡ imm8 = omega (arith, p.condition, p.word, p.r16_below, p.r12_below, p.r8_below, p.r0_below) in
    rw (condition_is c (n / 2 ^ 28) (omega (arith, p.condition, p.word, p.r16_below, p.r12_below, p.r8_below, p.r0_below)), kind, at_12, at_16, immediate) refl
reads (B c imm24) n e =
    let a = chosen (fits_signed 24 imm24) (placed c (0x0a000000 + residue 24 imm24) 0 0 0 0) n e in
    let p = placed_word c (0x0a000000 + residue 24 imm24) 0 0 0 0 n a.1 in
    let f = branch_fields (residue 24 imm24) n (condition_number c) 0xa (residue_below 24 imm24) p.condition (omega (arith, p.word)) (omega arith) in
    rw (condition_is c (n / 2 ^ 28) f.0, f.1, signed_as 24 n imm24 (omega arith) a.0 f.2) refl
reads (Bl c imm24) n e =
    let a = chosen (fits_signed 24 imm24) (placed c (0x0b000000 + residue 24 imm24) 0 0 0 0) n e in
    let p = placed_word c (0x0b000000 + residue 24 imm24) 0 0 0 0 n a.1 in
    let f = branch_fields (residue 24 imm24) n (condition_number c) 0xb (residue_below 24 imm24) p.condition (omega (arith, p.word)) (omega arith) in
    rw (condition_is c (n / 2 ^ 28) f.0, f.1, signed_as 24 n imm24 (omega arith) a.0 f.2) refl
reads (Bx c rm) n e =
    let p = placed_word c (0x012fff10) 0 0 0 rm n e in
    let kind : n / 2 ^ 22 % 2 ≡ 0 = omega (arith, p.condition, p.word, p.r16_below, p.r12_below, p.r8_below, p.r0_below) in
    let at_0 : n / 2 ^ 0 % 16 ≡ rm = omega (arith, p.condition, p.word, p.r16_below, p.r12_below, p.r8_below, p.r0_below) in
    rw (condition_is c (n / 2 ^ 28) (omega (arith, p.condition, p.word, p.r16_below, p.r12_below, p.r8_below, p.r0_below)), kind, at_0) refl
reads (Udf imm16) n e =
    let a = chosen (nat_lt imm16 (2 ^ 16)) (Some (0xe7f000f0 + imm16 / 2 ^ 4 * 2 ^ 8 + imm16 % 2 ^ 4)) n e in
    let l : imm16 < 2 ^ 16 = less imm16 (2 ^ 16) a.0 in
    let w : n ≡ 0xe7f000f0 + imm16 / 2 ^ 4 * 2 ^ 8 + imm16 % 2 ^ 4 = let t = a.1 in cc in
    let kind : n / 2 ^ 20 % 32 ≡ 0x1f = omega arith in
    let immediate : n / 2 ^ 8 % 2 ^ 12 * 2 ^ 4 + n / 2 ^ 0 % 16 ≡ imm16 = omega arith in
    rw (kind, immediate) refl

pub reading_is : (i : Inst) (n : ℕ) → encoding i ≡ Some n → reading n ≡ i
unfolding reading
reading_is i n e = ap (λ g. read_as g n) (group_is i n e) ∙ reads i n e

is_word_yes : (o : Option ℕ) (n : ℕ) → is_word o n ≡ true → o ≡ Some n
is_word_yes (Some k) n e = let h : k ≡ n = grind (arith, nat_tests) in ap Some h
is_word_yes None n e = cc

word_is : (o : Option ℕ) (n : ℕ) → o ≡ Some n → is_word o n ≡ true
word_is (Some k) n e = let h : k ≡ n = cc in grind (arith, nat_tests)
word_is None n e = cc

taken : (b : Bool) (i j : Inst) → cond b (Some i) None ≡ Some j → (b ≡ true) × (i ≡ j)
taken true i j e = (refl, let t = e in cc)
taken false i j e = cc

-- an instruction that is read has the word
pub encoding_decoding : (n : ℕ) (i : Inst) → decoding n ≡ Some i → encoding i ≡ Some n
unfolding decoding
encoding_decoding n i e =
    let t = taken (is_word (encoding (reading n)) n) (reading n) i e in
    rw (← t.1) (is_word_yes (encoding (reading n)) n t.0)

-- the word of an instruction is read as the instruction
pub decoding_encoding : (i : Inst) (n : ℕ) → encoding i ≡ Some n → decoding n ≡ Some i
unfolding decoding
decoding_encoding i n e = rw (reading_is i n e, word_is (encoding i) n e) refl

same_some : (i j : Inst) → Some i ≡ Some j → i ≡ j
same_some i j e = cc

-- no two instructions have one word
pub encoding_unique : (i j : Inst) (n : ℕ) → encoding i ≡ Some n → encoding j ≡ Some n → i ≡ j
encoding_unique i j n e f = same_some i j (sym (decoding_encoding i n e) ∙ decoding_encoding j n f)
