-- The group of a word that an instruction has.
use Rattle.std.proofs.Common.{◌≡◌, ◌≢◌, ℕ, ◌+◌, ◌*◌, ◌/◌, ◌%◌, ◌^◌, ◌<◌, arith, refl, true, Some, ap, ◌∙◌, ◌⊎◌, inl, inr}
use Rattle.std.specs.Prelude.{nat_lt}
use Rattle.std.proofs.lemmas.Bool.{ltb-true}
use Rattle.std.proofs.lemmas.Bool.Decides.{nat_tests}
use Rattle.bk_num.specs.Word.{residue, fits_signed}
use Rattle.bk_num.proofs.Signs.{residue_below}
use Rattle.bk_arm_isa.specs.declared.DataOp.{DataOp}
use Rattle.bk_arm_isa.specs.declared.DataOp.TheVariants.{And, Eor, Sub, Rsb, Add, Adc, Sbc, Rsc, Orr, Bic}
use Rattle.bk_arm_isa.specs.declared.MoveOp.{MoveOp}
use Rattle.bk_arm_isa.specs.declared.MoveOp.TheVariants.{Mov, Mvn}
use Rattle.bk_arm_isa.specs.declared.TestOp.{TestOp}
use Rattle.bk_arm_isa.specs.declared.TestOp.TheVariants.{Tst, Teq, Cmp, Cmn}
use Rattle.bk_arm_isa.specs.declared.read.Group.{Group}
use Rattle.bk_arm_isa.specs.declared.read.Group.TheVariants as G
use Rattle.bk_arm_isa.specs.declared.Inst.{Inst}
use Rattle.bk_arm_isa.specs.declared.Inst.TheVariants.{Data, Move, Test, Movw, Movt, Mul, Mls, Umull, Smull, Sdiv, Udiv, Clz, Rbit, Sxtb, Sxth, Uxtb, Uxth, Ldr, Str, Ldrb, Strb, Ldrh, Strh, B, Bl, Bx, Udf}
use Rattle.bk_arm_isa.specs.Encoding.{condition_number, data_opcode, move_opcode, test_opcode, placed, processed, takes, encoding}
use Rattle.bk_arm_isa.specs.Decoding.{group_at}
use Rattle.bk_arm_isa.proofs.Fields.{placed_word, chosen, processed_fields}

-- the group of each instruction
abbrev pub group_of : Inst → Group
group_of (Data c op rd rn o) = G.Data
group_of (Move c op rd o) = G.Move
group_of (Test c op rn o) = G.Test
group_of (Movw c rd imm16) = G.Wide
group_of (Movt c rd imm16) = G.Wide
group_of (Mul c rd rn rm) = G.Multiply
group_of (Mls c rd rn rm ra) = G.Multiply
group_of (Umull c rd_lo rd_hi rn rm) = G.Multiply
group_of (Smull c rd_lo rd_hi rn rm) = G.Multiply
group_of (Sdiv c rd rn rm) = G.Media
group_of (Udiv c rd rn rm) = G.Media
group_of (Clz c rd rm) = G.Miscellaneous
group_of (Rbit c rd rm) = G.Media
group_of (Sxtb c rd rm) = G.Media
group_of (Sxth c rd rm) = G.Media
group_of (Uxtb c rd rm) = G.Media
group_of (Uxth c rd rm) = G.Media
group_of (Ldr c rt rn imm12) = G.Memory
group_of (Str c rt rn imm12) = G.Memory
group_of (Ldrb c rt rn imm12) = G.Memory
group_of (Strb c rt rn imm12) = G.Memory
group_of (Ldrh c rt rn imm8) = G.Half
group_of (Strh c rt rn imm8) = G.Half
group_of (B c imm24) = G.Branch
group_of (Bl c imm24) = G.Branch
group_of (Bx c rm) = G.Miscellaneous
group_of (Udf imm16) = G.Media

-- the group at the bits of a word
abbrev pub grouped : ℕ → Group
grouped n = group_at (n / 2 ^ 20 % 256) (n / 2 ^ 4 % 16)

by_bits : (n opcode low : ℕ) → n / 2 ^ 20 % 256 ≡ opcode → n / 2 ^ 4 % 16 ≡ low → grouped n ≡ group_at opcode low
by_bits n opcode low e f = ap (λ k. group_at k (n / 2 ^ 4 % 16)) e ∙ ap (group_at opcode) f

by_opcode : (n opcode : ℕ) → n / 2 ^ 20 % 256 ≡ opcode → grouped n ≡ group_at opcode (n / 2 ^ 4 % 16)
by_opcode n opcode e = ap (λ k. group_at k (n / 2 ^ 4 % 16)) e

pub less : (a b : ℕ) → nat_lt a b ≡ true → a < b
less a b h = ltb-true a b h

branch_at : (k l : ℕ) → k / 32 ≡ 5 → group_at k l ≡ G.Branch
branch_at k l e = grind (arith, nat_tests)

branch_bits : (r n c b : ℕ) → r < 2 ^ 24 → n ≡ c * 2 ^ 28 + b * 2 ^ 20 + r → (b ≡ 0xa0) ⊎ (b ≡ 0xb0) → n / 2 ^ 20 % 256 / 32 ≡ 5
branch_bits r n c b l w (inl e) = omega arith
branch_bits r n c b l w (inr e) = omega arith

data_at : (k l opcode : ℕ) → (k ≡ opcode + 32) ⊎ ((k ≡ opcode) × (l ≢ 9) × (l ≢ 11)) → opcode < 32 → opcode / 8 ≢ 2 → opcode / 2 ≢ 13 → opcode / 2 ≢ 15 → group_at k l ≡ G.Data
data_at k l opcode (inl e) b t m v = grind (arith, nat_tests)
data_at k l opcode (inr e) b t m v = grind (arith, nat_tests)

move_at : (k l opcode : ℕ) → (k ≡ opcode + 32) ⊎ ((k ≡ opcode) × (l ≢ 9) × (l ≢ 11)) → (opcode ≡ 26) ⊎ (opcode ≡ 30) → group_at k l ≡ G.Move
move_at k l opcode (inl e) (inl f) = grind (arith, nat_tests)
move_at k l opcode (inl e) (inr f) = grind (arith, nat_tests)
move_at k l opcode (inr e) (inl f) = grind (arith, nat_tests)
move_at k l opcode (inr e) (inr f) = grind (arith, nat_tests)

test_at : (k l opcode : ℕ) → (k ≡ opcode + 32) ⊎ ((k ≡ opcode) × (l ≢ 9) × (l ≢ 11)) → opcode < 32 → opcode / 8 ≡ 2 → opcode % 2 ≡ 1 → group_at k l ≡ G.Test
test_at k l opcode (inl e) b t o = grind (arith, nat_tests)
test_at k l opcode (inr e) b t o = grind (arith, nat_tests)

record IsDataOpcode (opcode : ℕ) : Type 0 where
  below : opcode < 16
  no_test : opcode / 4 ≢ 2
  no_mov : opcode ≢ 13
  no_mvn : opcode ≢ 15

data_opcodes : (op : DataOp) → IsDataOpcode (data_opcode op)
data_opcodes And = record { below = omega arith; no_test = omega arith; no_mov = omega arith; no_mvn = omega arith }
data_opcodes Eor = record { below = omega arith; no_test = omega arith; no_mov = omega arith; no_mvn = omega arith }
data_opcodes Sub = record { below = omega arith; no_test = omega arith; no_mov = omega arith; no_mvn = omega arith }
data_opcodes Rsb = record { below = omega arith; no_test = omega arith; no_mov = omega arith; no_mvn = omega arith }
data_opcodes Add = record { below = omega arith; no_test = omega arith; no_mov = omega arith; no_mvn = omega arith }
data_opcodes Adc = record { below = omega arith; no_test = omega arith; no_mov = omega arith; no_mvn = omega arith }
data_opcodes Sbc = record { below = omega arith; no_test = omega arith; no_mov = omega arith; no_mvn = omega arith }
data_opcodes Rsc = record { below = omega arith; no_test = omega arith; no_mov = omega arith; no_mvn = omega arith }
data_opcodes Orr = record { below = omega arith; no_test = omega arith; no_mov = omega arith; no_mvn = omega arith }
data_opcodes Bic = record { below = omega arith; no_test = omega arith; no_mov = omega arith; no_mvn = omega arith }

move_opcodes : (op : MoveOp) → (move_opcode op ≡ 13) ⊎ (move_opcode op ≡ 15)
move_opcodes Mov = inl refl
move_opcodes Mvn = inr refl

pub move_opcode_below : (op : MoveOp) → move_opcode op < 16
move_opcode_below Mov = omega arith
move_opcode_below Mvn = omega arith

test_opcodes : (op : TestOp) → (test_opcode op < 16) × (test_opcode op / 4 ≡ 2)
test_opcodes Tst = (omega arith, omega arith)
test_opcodes Teq = (omega arith, omega arith)
test_opcodes Cmp = (omega arith, omega arith)
test_opcodes Cmn = (omega arith, omega arith)

pub test_opcode_below : (op : TestOp) → test_opcode op < 16
test_opcode_below op = (test_opcodes op).0

-- an instruction's word is in the instruction's group
pub group_is : (i : Inst) (n : ℕ) → encoding i ≡ Some n → grouped n ≡ group_of i
group_is (Data c op rd rn o) n e =
    let s = data_opcodes op in
    let p = processed_fields c (data_opcode op * 2) rn rd o n (omega (arith, s.below)) e in
    data_at (n / 2 ^ 20 % 256) (n / 2 ^ 4 % 16) (data_opcode op * 2) p.form (omega (arith, s.below)) (omega (arith, s.no_test)) (omega (arith, s.no_mov)) (omega (arith, s.no_mvn))
group_is (Move c op rd o) n e =
    let below : move_opcode op < 16 = elim (move_opcodes op) [ inl h ↦ omega arith | inr h ↦ omega arith ] in
    let p = processed_fields c (move_opcode op * 2) 0 rd o n (omega arith) e in
    move_at (n / 2 ^ 20 % 256) (n / 2 ^ 4 % 16) (move_opcode op * 2) p.form (elim (move_opcodes op) [ inl h ↦ inl (omega arith) | inr h ↦ inr (omega arith) ])
group_is (Test c op rn o) n e =
    let s = test_opcodes op in
    let a = chosen (takes op o) (processed c (test_opcode op * 2 + 1) rn 0 o) n e in
    let p = processed_fields c (test_opcode op * 2 + 1) rn 0 o n (omega (arith, s.0)) a.1 in
    test_at (n / 2 ^ 20 % 256) (n / 2 ^ 4 % 16) (test_opcode op * 2 + 1) p.form (omega (arith, s.0)) (omega (arith, s.1)) (omega arith)
group_is (Movw c rd imm16) n e =
    let a = chosen (nat_lt imm16 (2 ^ 16)) (placed c (0x03000000 + imm16 / 2 ^ 12 * 2 ^ 16 + imm16 % 2 ^ 12) 0 rd 0 0) n e in
    let l : imm16 < 2 ^ 16 = less imm16 (2 ^ 16) a.0 in
    let p = placed_word c (0x03000000 + imm16 / 2 ^ 12 * 2 ^ 16 + imm16 % 2 ^ 12) 0 rd 0 0 n a.1 in
    by_opcode n 0x30 (omega (arith, p.condition, p.word, p.r16_below, p.r12_below, p.r8_below, p.r0_below))
group_is (Movt c rd imm16) n e =
    let a = chosen (nat_lt imm16 (2 ^ 16)) (placed c (0x03400000 + imm16 / 2 ^ 12 * 2 ^ 16 + imm16 % 2 ^ 12) 0 rd 0 0) n e in
    let l : imm16 < 2 ^ 16 = less imm16 (2 ^ 16) a.0 in
    let p = placed_word c (0x03400000 + imm16 / 2 ^ 12 * 2 ^ 16 + imm16 % 2 ^ 12) 0 rd 0 0 n a.1 in
    by_opcode n 0x34 (omega (arith, p.condition, p.word, p.r16_below, p.r12_below, p.r8_below, p.r0_below))
group_is (Mul c rd rn rm) n e =
    let p = placed_word c (0x00000090) rd 0 rm rn n e in
    by_bits n 0x00 9 (omega (arith, p.condition, p.word, p.r16_below, p.r12_below, p.r8_below, p.r0_below)) (omega (arith, p.condition, p.word, p.r16_below, p.r12_below, p.r8_below, p.r0_below))
group_is (Mls c rd rn rm ra) n e =
    let p = placed_word c (0x00600090) rd ra rm rn n e in
    by_bits n 0x06 9 (omega (arith, p.condition, p.word, p.r16_below, p.r12_below, p.r8_below, p.r0_below)) (omega (arith, p.condition, p.word, p.r16_below, p.r12_below, p.r8_below, p.r0_below))
group_is (Umull c rd_lo rd_hi rn rm) n e =
    let p = placed_word c (0x00800090) rd_hi rd_lo rm rn n e in
    by_bits n 0x08 9 (omega (arith, p.condition, p.word, p.r16_below, p.r12_below, p.r8_below, p.r0_below)) (omega (arith, p.condition, p.word, p.r16_below, p.r12_below, p.r8_below, p.r0_below))
group_is (Smull c rd_lo rd_hi rn rm) n e =
    let p = placed_word c (0x00c00090) rd_hi rd_lo rm rn n e in
    by_bits n 0x0c 9 (omega (arith, p.condition, p.word, p.r16_below, p.r12_below, p.r8_below, p.r0_below)) (omega (arith, p.condition, p.word, p.r16_below, p.r12_below, p.r8_below, p.r0_below))
group_is (Sdiv c rd rn rm) n e =
    let p = placed_word c (0x0710f010) rd 0 rm rn n e in
    by_opcode n 0x71 (omega (arith, p.condition, p.word, p.r16_below, p.r12_below, p.r8_below, p.r0_below))
group_is (Udiv c rd rn rm) n e =
    let p = placed_word c (0x0730f010) rd 0 rm rn n e in
    by_opcode n 0x73 (omega (arith, p.condition, p.word, p.r16_below, p.r12_below, p.r8_below, p.r0_below))
group_is (Clz c rd rm) n e =
    let p = placed_word c (0x016f0f10) 0 rd 0 rm n e in
    by_bits n 0x16 1 (omega (arith, p.condition, p.word, p.r16_below, p.r12_below, p.r8_below, p.r0_below)) (omega (arith, p.condition, p.word, p.r16_below, p.r12_below, p.r8_below, p.r0_below))
group_is (Rbit c rd rm) n e =
    let p = placed_word c (0x06ff0f30) 0 rd 0 rm n e in
    by_opcode n 0x6f (omega (arith, p.condition, p.word, p.r16_below, p.r12_below, p.r8_below, p.r0_below))
group_is (Sxtb c rd rm) n e =
    let p = placed_word c (0x06af0070) 0 rd 0 rm n e in
    by_opcode n 0x6a (omega (arith, p.condition, p.word, p.r16_below, p.r12_below, p.r8_below, p.r0_below))
group_is (Sxth c rd rm) n e =
    let p = placed_word c (0x06bf0070) 0 rd 0 rm n e in
    by_opcode n 0x6b (omega (arith, p.condition, p.word, p.r16_below, p.r12_below, p.r8_below, p.r0_below))
group_is (Uxtb c rd rm) n e =
    let p = placed_word c (0x06ef0070) 0 rd 0 rm n e in
    by_opcode n 0x6e (omega (arith, p.condition, p.word, p.r16_below, p.r12_below, p.r8_below, p.r0_below))
group_is (Uxth c rd rm) n e =
    let p = placed_word c (0x06ff0070) 0 rd 0 rm n e in
    by_opcode n 0x6f (omega (arith, p.condition, p.word, p.r16_below, p.r12_below, p.r8_below, p.r0_below))
group_is (Ldr c rt rn imm12) n e =
    let a = chosen (nat_lt imm12 (2 ^ 12)) (placed c (0x05900000 + imm12) rn rt 0 0) n e in
    let l : imm12 < 2 ^ 12 = less imm12 (2 ^ 12) a.0 in
    let p = placed_word c (0x05900000 + imm12) rn rt 0 0 n a.1 in
    by_opcode n 0x59 (omega (arith, p.condition, p.word, p.r16_below, p.r12_below, p.r8_below, p.r0_below))
group_is (Str c rt rn imm12) n e =
    let a = chosen (nat_lt imm12 (2 ^ 12)) (placed c (0x05800000 + imm12) rn rt 0 0) n e in
    let l : imm12 < 2 ^ 12 = less imm12 (2 ^ 12) a.0 in
    let p = placed_word c (0x05800000 + imm12) rn rt 0 0 n a.1 in
    by_opcode n 0x58 (omega (arith, p.condition, p.word, p.r16_below, p.r12_below, p.r8_below, p.r0_below))
group_is (Ldrb c rt rn imm12) n e =
    let a = chosen (nat_lt imm12 (2 ^ 12)) (placed c (0x05d00000 + imm12) rn rt 0 0) n e in
    let l : imm12 < 2 ^ 12 = less imm12 (2 ^ 12) a.0 in
    let p = placed_word c (0x05d00000 + imm12) rn rt 0 0 n a.1 in
    by_opcode n 0x5d (omega (arith, p.condition, p.word, p.r16_below, p.r12_below, p.r8_below, p.r0_below))
group_is (Strb c rt rn imm12) n e =
    let a = chosen (nat_lt imm12 (2 ^ 12)) (placed c (0x05c00000 + imm12) rn rt 0 0) n e in
    let l : imm12 < 2 ^ 12 = less imm12 (2 ^ 12) a.0 in
    let p = placed_word c (0x05c00000 + imm12) rn rt 0 0 n a.1 in
    by_opcode n 0x5c (omega (arith, p.condition, p.word, p.r16_below, p.r12_below, p.r8_below, p.r0_below))
group_is (Ldrh c rt rn imm8) n e =
    let a = chosen (nat_lt imm8 (2 ^ 8)) (placed c (0x01d000b0 + imm8 / 2 ^ 4 * 2 ^ 8 + imm8 % 2 ^ 4) rn rt 0 0) n e in
    let l : imm8 < 2 ^ 8 = less imm8 (2 ^ 8) a.0 in
    let p = placed_word c (0x01d000b0 + imm8 / 2 ^ 4 * 2 ^ 8 + imm8 % 2 ^ 4) rn rt 0 0 n a.1 in
    by_bits n 0x1d 11 (omega (arith, p.condition, p.word, p.r16_below, p.r12_below, p.r8_below, p.r0_below)) (omega (arith, p.condition, p.word, p.r16_below, p.r12_below, p.r8_below, p.r0_below))
group_is (Strh c rt rn imm8) n e =
    let a = chosen (nat_lt imm8 (2 ^ 8)) (placed c (0x01c000b0 + imm8 / 2 ^ 4 * 2 ^ 8 + imm8 % 2 ^ 4) rn rt 0 0) n e in
    let l : imm8 < 2 ^ 8 = less imm8 (2 ^ 8) a.0 in
    let p = placed_word c (0x01c000b0 + imm8 / 2 ^ 4 * 2 ^ 8 + imm8 % 2 ^ 4) rn rt 0 0 n a.1 in
    by_bits n 0x1c 11 (omega (arith, p.condition, p.word, p.r16_below, p.r12_below, p.r8_below, p.r0_below)) (omega (arith, p.condition, p.word, p.r16_below, p.r12_below, p.r8_below, p.r0_below))
group_is (B c imm24) n e =
    let a = chosen (fits_signed 24 imm24) (placed c (0x0a000000 + residue 24 imm24) 0 0 0 0) n e in
    let p = placed_word c (0x0a000000 + residue 24 imm24) 0 0 0 0 n a.1 in
    branch_at (n / 2 ^ 20 % 256) (n / 2 ^ 4 % 16) (branch_bits (residue 24 imm24) n (condition_number c) 0xa0 (residue_below 24 imm24) (omega (arith, p.word)) (inl refl))
group_is (Bl c imm24) n e =
    let a = chosen (fits_signed 24 imm24) (placed c (0x0b000000 + residue 24 imm24) 0 0 0 0) n e in
    let p = placed_word c (0x0b000000 + residue 24 imm24) 0 0 0 0 n a.1 in
    branch_at (n / 2 ^ 20 % 256) (n / 2 ^ 4 % 16) (branch_bits (residue 24 imm24) n (condition_number c) 0xb0 (residue_below 24 imm24) (omega (arith, p.word)) (inr refl))
group_is (Bx c rm) n e =
    let p = placed_word c (0x012fff10) 0 0 0 rm n e in
    by_bits n 0x12 1 (omega (arith, p.condition, p.word, p.r16_below, p.r12_below, p.r8_below, p.r0_below)) (omega (arith, p.condition, p.word, p.r16_below, p.r12_below, p.r8_below, p.r0_below))
group_is (Udf imm16) n e =
    let a = chosen (nat_lt imm16 (2 ^ 16)) (Some (0xe7f000f0 + imm16 / 2 ^ 4 * 2 ^ 8 + imm16 % 2 ^ 4)) n e in
    let l : imm16 < 2 ^ 16 = less imm16 (2 ^ 16) a.0 in
    let w : n ≡ 0xe7f000f0 + imm16 / 2 ^ 4 * 2 ^ 8 + imm16 % 2 ^ 4 = let t = a.1 in cc in
    by_opcode n 0x7f (omega arith)
