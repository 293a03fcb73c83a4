-- The word of an instruction has 32 bits.
use Rattle.std.proofs.Common.{◌≡◌, ℕ, ◌+◌, ◌*◌, ◌/◌, ◌%◌, ◌^◌, ◌<◌, arith, Some}
use Rattle.std.specs.Prelude.{nat_lt}
use Rattle.bk_num.specs.Word.{residue, fits_signed}
use Rattle.bk_num.proofs.Signs.{residue_below}
use Rattle.bk_arm_isa.specs.declared.Inst.{Inst}
use Rattle.bk_arm_isa.specs.declared.Inst.TheVariants.{Data, Move, Test, Movw, Movt, Mul, Mls, Umull, Smull, Sdiv, Udiv, Clz, Rbit, Sxtb, Sxth, Uxtb, Uxth, Ldr, Str, Ldrb, Strb, Ldrh, Strh, B, Bl, Bx, Udf}
use Rattle.bk_arm_isa.specs.Encoding.{data_opcode, move_opcode, test_opcode, placed, processed, takes, encoding}
use Rattle.bk_arm_isa.proofs.Fields.{condition_below, placed_word, chosen, processed_fields, data_opcode_below}
use Rattle.bk_arm_isa.proofs.Grouped.{less, move_opcode_below, test_opcode_below}

pub encoding_below : (i : Inst) (n : ℕ) → encoding i ≡ Some n → n < 2 ^ 32
encoding_below (Data c op rd rn o) n e =
    let p = processed_fields c (data_opcode op * 2) rn rd o n (omega (arith, data_opcode_below op)) e in
    omega (arith, p.condition, condition_below c)
encoding_below (Move c op rd o) n e =
    let p = processed_fields c (move_opcode op * 2) 0 rd o n (omega (arith, move_opcode_below op)) e in
    omega (arith, p.condition, condition_below c)
encoding_below (Test c op rn o) n e =
    let a = chosen (takes op o) (processed c (test_opcode op * 2 + 1) rn 0 o) n e in
    let p = processed_fields c (test_opcode op * 2 + 1) rn 0 o n (omega (arith, test_opcode_below op)) a.1 in
    omega (arith, p.condition, condition_below c)
encoding_below (Movw c rd imm16) n e =
    let a = chosen (nat_lt imm16 (2 ^ 16)) (placed c (0x03000000 + imm16 / 2 ^ 12 * 2 ^ 16 + imm16 % 2 ^ 12) 0 rd 0 0) n e in
    let l : imm16 < 2 ^ 16 = less imm16 (2 ^ 16) a.0 in
    let p = placed_word c (0x03000000 + imm16 / 2 ^ 12 * 2 ^ 16 + imm16 % 2 ^ 12) 0 rd 0 0 n a.1 in
    omega (arith, p.condition, p.word, p.r16_below, p.r12_below, p.r8_below, p.r0_below)
encoding_below (Movt c rd imm16) n e =
    let a = chosen (nat_lt imm16 (2 ^ 16)) (placed c (0x03400000 + imm16 / 2 ^ 12 * 2 ^ 16 + imm16 % 2 ^ 12) 0 rd 0 0) n e in
    let l : imm16 < 2 ^ 16 = less imm16 (2 ^ 16) a.0 in
    let p = placed_word c (0x03400000 + imm16 / 2 ^ 12 * 2 ^ 16 + imm16 % 2 ^ 12) 0 rd 0 0 n a.1 in
    omega (arith, p.condition, p.word, p.r16_below, p.r12_below, p.r8_below, p.r0_below)
encoding_below (Mul c rd rn rm) n e =
    let p = placed_word c (0x00000090) rd 0 rm rn n e in
    omega (arith, p.condition, p.word, p.r16_below, p.r12_below, p.r8_below, p.r0_below)
encoding_below (Mls c rd rn rm ra) n e =
    let p = placed_word c (0x00600090) rd ra rm rn n e in
    omega (arith, p.condition, p.word, p.r16_below, p.r12_below, p.r8_below, p.r0_below)
encoding_below (Umull c rd_lo rd_hi rn rm) n e =
    let p = placed_word c (0x00800090) rd_hi rd_lo rm rn n e in
    omega (arith, p.condition, p.word, p.r16_below, p.r12_below, p.r8_below, p.r0_below)
encoding_below (Smull c rd_lo rd_hi rn rm) n e =
    let p = placed_word c (0x00c00090) rd_hi rd_lo rm rn n e in
    omega (arith, p.condition, p.word, p.r16_below, p.r12_below, p.r8_below, p.r0_below)
encoding_below (Sdiv c rd rn rm) n e =
    let p = placed_word c (0x0710f010) rd 0 rm rn n e in
    omega (arith, p.condition, p.word, p.r16_below, p.r12_below, p.r8_below, p.r0_below)
encoding_below (Udiv c rd rn rm) n e =
    let p = placed_word c (0x0730f010) rd 0 rm rn n e in
    omega (arith, p.condition, p.word, p.r16_below, p.r12_below, p.r8_below, p.r0_below)
encoding_below (Clz c rd rm) n e =
    let p = placed_word c (0x016f0f10) 0 rd 0 rm n e in
    omega (arith, p.condition, p.word, p.r16_below, p.r12_below, p.r8_below, p.r0_below)
encoding_below (Rbit c rd rm) n e =
    let p = placed_word c (0x06ff0f30) 0 rd 0 rm n e in
    omega (arith, p.condition, p.word, p.r16_below, p.r12_below, p.r8_below, p.r0_below)
encoding_below (Sxtb c rd rm) n e =
    let p = placed_word c (0x06af0070) 0 rd 0 rm n e in
    omega (arith, p.condition, p.word, p.r16_below, p.r12_below, p.r8_below, p.r0_below)
encoding_below (Sxth c rd rm) n e =
    let p = placed_word c (0x06bf0070) 0 rd 0 rm n e in
    omega (arith, p.condition, p.word, p.r16_below, p.r12_below, p.r8_below, p.r0_below)
encoding_below (Uxtb c rd rm) n e =
    let p = placed_word c (0x06ef0070) 0 rd 0 rm n e in
    omega (arith, p.condition, p.word, p.r16_below, p.r12_below, p.r8_below, p.r0_below)
encoding_below (Uxth c rd rm) n e =
    let p = placed_word c (0x06ff0070) 0 rd 0 rm n e in
    omega (arith, p.condition, p.word, p.r16_below, p.r12_below, p.r8_below, p.r0_below)
encoding_below (Ldr c rt rn imm12) n e =
    let a = chosen (nat_lt imm12 (2 ^ 12)) (placed c (0x05900000 + imm12) rn rt 0 0) n e in
    let l : imm12 < 2 ^ 12 = less imm12 (2 ^ 12) a.0 in
    let p = placed_word c (0x05900000 + imm12) rn rt 0 0 n a.1 in
    omega (arith, p.condition, p.word, p.r16_below, p.r12_below, p.r8_below, p.r0_below)
encoding_below (Str c rt rn imm12) n e =
    let a = chosen (nat_lt imm12 (2 ^ 12)) (placed c (0x05800000 + imm12) rn rt 0 0) n e in
    let l : imm12 < 2 ^ 12 = less imm12 (2 ^ 12) a.0 in
    let p = placed_word c (0x05800000 + imm12) rn rt 0 0 n a.1 in
    omega (arith, p.condition, p.word, p.r16_below, p.r12_below, p.r8_below, p.r0_below)
encoding_below (Ldrb c rt rn imm12) n e =
    let a = chosen (nat_lt imm12 (2 ^ 12)) (placed c (0x05d00000 + imm12) rn rt 0 0) n e in
    let l : imm12 < 2 ^ 12 = less imm12 (2 ^ 12) a.0 in
    let p = placed_word c (0x05d00000 + imm12) rn rt 0 0 n a.1 in
    omega (arith, p.condition, p.word, p.r16_below, p.r12_below, p.r8_below, p.r0_below)
encoding_below (Strb c rt rn imm12) n e =
    let a = chosen (nat_lt imm12 (2 ^ 12)) (placed c (0x05c00000 + imm12) rn rt 0 0) n e in
    let l : imm12 < 2 ^ 12 = less imm12 (2 ^ 12) a.0 in
    let p = placed_word c (0x05c00000 + imm12) rn rt 0 0 n a.1 in
    omega (arith, p.condition, p.word, p.r16_below, p.r12_below, p.r8_below, p.r0_below)
encoding_below (Ldrh c rt rn imm8) n e =
    let a = chosen (nat_lt imm8 (2 ^ 8)) (placed c (0x01d000b0 + imm8 / 2 ^ 4 * 2 ^ 8 + imm8 % 2 ^ 4) rn rt 0 0) n e in
    let l : imm8 < 2 ^ 8 = less imm8 (2 ^ 8) a.0 in
    let p = placed_word c (0x01d000b0 + imm8 / 2 ^ 4 * 2 ^ 8 + imm8 % 2 ^ 4) rn rt 0 0 n a.1 in
    omega (arith, p.condition, p.word, p.r16_below, p.r12_below, p.r8_below, p.r0_below)
encoding_below (Strh c rt rn imm8) n e =
    let a = chosen (nat_lt imm8 (2 ^ 8)) (placed c (0x01c000b0 + imm8 / 2 ^ 4 * 2 ^ 8 + imm8 % 2 ^ 4) rn rt 0 0) n e in
    let l : imm8 < 2 ^ 8 = less imm8 (2 ^ 8) a.0 in
    let p = placed_word c (0x01c000b0 + imm8 / 2 ^ 4 * 2 ^ 8 + imm8 % 2 ^ 4) rn rt 0 0 n a.1 in
    omega (arith, p.condition, p.word, p.r16_below, p.r12_below, p.r8_below, p.r0_below)
encoding_below (B c imm24) n e =
    let a = chosen (fits_signed 24 imm24) (placed c (0x0a000000 + residue 24 imm24) 0 0 0 0) n e in
    let p = placed_word c (0x0a000000 + residue 24 imm24) 0 0 0 0 n a.1 in
    omega (arith, p.condition, p.word, residue_below 24 imm24)
encoding_below (Bl c imm24) n e =
    let a = chosen (fits_signed 24 imm24) (placed c (0x0b000000 + residue 24 imm24) 0 0 0 0) n e in
    let p = placed_word c (0x0b000000 + residue 24 imm24) 0 0 0 0 n a.1 in
    omega (arith, p.condition, p.word, residue_below 24 imm24)
encoding_below (Bx c rm) n e =
    let p = placed_word c (0x012fff10) 0 0 0 rm n e in
    omega (arith, p.condition, p.word, p.r16_below, p.r12_below, p.r8_below, p.r0_below)
encoding_below (Udf imm16) n e =
    let a = chosen (nat_lt imm16 (2 ^ 16)) (Some (0xe7f000f0 + imm16 / 2 ^ 4 * 2 ^ 8 + imm16 % 2 ^ 4)) n e in
    let l : imm16 < 2 ^ 16 = less imm16 (2 ^ 16) a.0 in
    let w : n ≡ 0xe7f000f0 + imm16 / 2 ^ 4 * 2 ^ 8 + imm16 % 2 ^ 4 = let t = a.1 in cc in
    omega arith
