-- The instruction of a word has this word.
use Rattle.std.proofs.Common.{◌≡◌, ℕ, ◌+◌, ◌*◌, ◌/◌, ◌%◌, ◌^◌, ◌<◌, ◌≤◌, ap, ◌∙◌, sym, subst, arith, refl, Bool, true, Some, None, Option, cond, inl, inr, ◌↔◌}
use Rattle.std.specs.Prelude.{◌&&◌, nat_lt, ◌==◌, option_map}
use Rattle.std.proofs.lemmas.Bool.Decides.{nat_tests}
use Rattle.bk_num.specs.Word.{signed, residue, fits_signed}
use Rattle.bk_num.proofs.Signs.{residue_signed, signed_fits}
use Rattle.bk_rv_isa.specs.declared.inst.Inst.{Inst}
use Rattle.bk_rv_isa.specs.declared.inst.Inst.TheVariants.{Op, OpImm, Shift, Addiw, Load, Store, Branch, Lui, Auipc, Jal, Jalr, Ebreak}
use Rattle.bk_rv_isa.specs.Encoding.{r_type, i_type, s_type, b_type, u_type, j_type, register_funct3, register_funct7, immediate_funct3, shift_funct3, shift_funct6, load_funct3, store_funct3, branch_funct3, is_even_signed, fits, word, encoding, opcode, funct3, funct7, rd, rs1, rs2, count, i_immediate, s_immediate, b_immediate, u_immediate, j_immediate, register_op, immediate_op, shift_op, load_op, store_op, branch_op, decoding_by, decoding}
use Rattle.bk_rv_isa.proofs.Rows.{chosen, eq_of, mapped, register_found, shift_found, immediate_found, load_found, store_found, branch_found}
use Rattle.bk_rv_isa.proofs.Words.{encoding_back}

lt_test : (a b : ℕ) → a < b → nat_lt a b ≡ true
lt_test a b h = grind (arith, nat_tests)

all_three : (a b c : Bool) → a ≡ true → b ≡ true → c ≡ true → a && (b && c) ≡ true
all_three a b c f g h = grind (arith, f, g, h)

small : (n : ℕ) → nat_lt (n % 2 ^ 5) 32 ≡ true
small n = lt_test (n % 2 ^ 5) 32 (omega arith)

-- an instruction that fits and spells n
made : (i : Inst) (n : ℕ) → fits i ≡ true → word i ≡ n → encoding i ≡ Some n
made i n f w = ap (λ b. cond b (Some (word i)) None) f ∙ ap Some w

bits : (w n : ℕ) → 1 ≤ w → n % 2 ^ w ≡ n → residue w (signed w n) ≡ n
bits w n l h = residue_signed w n l ∙ h

even_fits : (w n : ℕ) → 1 ≤ w → residue w (signed w n) ≡ n → n % 2 ≡ 0 → is_even_signed w (signed w n) ≡ true
even_fits w n l e h =
    let a : fits_signed w (signed w n) ≡ true = signed_fits w n l in
    let t : (residue w (signed w n) % 2 == 0) ≡ true = subst (λ r. (r % 2 == 0) ≡ true) (sym e) (ap (λ r. r == 0) h) in
    ap (λ b. b && residue w (signed w n) % 2 == 0) a ∙ t

r_back : (n code f3 f7 : ℕ) → n % 2 ^ 7 ≡ code → f3 ≡ n / 2 ^ 12 % 2 ^ 3 → f7 ≡ n / 2 ^ 25 → r_type code f3 f7 (n / 2 ^ 7 % 2 ^ 5) (n / 2 ^ 15 % 2 ^ 5) (n / 2 ^ 20 % 2 ^ 5) ≡ n
r_back n code f3 f7 a b c = omega arith

i_back : (n code f3 imm : ℕ) → n % 2 ^ 7 ≡ code → f3 ≡ n / 2 ^ 12 % 2 ^ 3 → imm ≡ n / 2 ^ 20 → i_type code f3 (n / 2 ^ 7 % 2 ^ 5) (n / 2 ^ 15 % 2 ^ 5) imm ≡ n
i_back n code f3 imm a b c = omega arith

s_back : (n code f3 imm : ℕ) → n % 2 ^ 7 ≡ code → f3 ≡ n / 2 ^ 12 % 2 ^ 3 → imm ≡ n / 2 ^ 25 * 2 ^ 5 + n / 2 ^ 7 % 2 ^ 5 → s_type code f3 (n / 2 ^ 15 % 2 ^ 5) (n / 2 ^ 20 % 2 ^ 5) imm ≡ n
s_back n code f3 imm a b c =
    let high : imm / 2 ^ 5 ≡ n / 2 ^ 25 = omega arith in
    let low : imm % 2 ^ 5 ≡ n / 2 ^ 7 % 2 ^ 5 = omega arith in
    omega arith

b_back : (n code f3 imm : ℕ) → n % 2 ^ 7 ≡ code → f3 ≡ n / 2 ^ 12 % 2 ^ 3 → imm ≡ n / 2 ^ 31 * 2 ^ 12 + n / 2 ^ 7 % 2 * 2 ^ 11 + n / 2 ^ 25 % 2 ^ 6 * 2 ^ 5 + n / 2 ^ 8 % 2 ^ 4 * 2 → b_type code f3 (n / 2 ^ 15 % 2 ^ 5) (n / 2 ^ 20 % 2 ^ 5) imm ≡ n
b_back n code f3 imm a b c =
    let b5 : imm / 2 ^ 5 % 2 ^ 6 ≡ n / 2 ^ 25 % 2 ^ 6 = omega arith in
    let b1 : imm / 2 % 2 ^ 4 ≡ n / 2 ^ 8 % 2 ^ 4 = omega arith in
    let b11 : imm / 2 ^ 11 % 2 ≡ n / 2 ^ 7 % 2 = omega arith in
    let b12 : imm / 2 ^ 12 ≡ n / 2 ^ 31 = omega arith in
    omega arith

u_back : (n code imm : ℕ) → n % 2 ^ 7 ≡ code → imm ≡ n / 2 ^ 12 → u_type code (n / 2 ^ 7 % 2 ^ 5) imm ≡ n
u_back n code imm a b = omega arith

j_back : (n code imm : ℕ) → n % 2 ^ 7 ≡ code → imm ≡ n / 2 ^ 31 * 2 ^ 20 + n / 2 ^ 12 % 2 ^ 8 * 2 ^ 12 + n / 2 ^ 20 % 2 * 2 ^ 11 + n / 2 ^ 21 % 2 ^ 10 * 2 → j_type code (n / 2 ^ 7 % 2 ^ 5) imm ≡ n
j_back n code imm a b =
    let b1 : imm / 2 % 2 ^ 10 ≡ n / 2 ^ 21 % 2 ^ 10 = omega arith in
    let b11 : imm / 2 ^ 11 % 2 ≡ n / 2 ^ 20 % 2 = omega arith in
    let b12 : imm / 2 ^ 12 % 2 ^ 8 ≡ n / 2 ^ 12 % 2 ^ 8 = omega arith in
    let b20 : imm / 2 ^ 20 ≡ n / 2 ^ 31 = omega arith in
    omega arith

-- the word of an instruction that was read, opcode by opcode

op_back : (n : ℕ) (i : Inst) → n < 2 ^ 32 → opcode n ≡ 0x33 → decoding_by 0x33 n ≡ Some i → encoding i ≡ Some n
op_back n i lt c h =
    let m = mapped (λ op. Op op (rd n) (rs1 n) (rs2 n)) (register_op (funct3 n) (funct7 n)) i h in
    let f = register_found (funct3 n) (funct7 n) m.0 m.1 in
    subst (λ i. encoding i ≡ Some n) m.2
    (made (Op m.0 (rd n) (rs1 n) (rs2 n)) n (all_three _ _ _ (small (n / 2 ^ 7)) (small (n / 2 ^ 15)) (small (n / 2 ^ 20))) (r_back n 0x33 (register_funct3 m.0) (register_funct7 m.0) c f.0 f.1))

imm_back : (n : ℕ) → n < 2 ^ 32 → residue 12 (i_immediate n) ≡ n / 2 ^ 20
imm_back n lt = bits 12 (n / 2 ^ 20) (omega arith) (omega arith)

-- an instruction of the I format
i_made : (i : Inst) (n code f3 : ℕ) → n < 2 ^ 32 → opcode n ≡ code → f3 ≡ funct3 n → fits i ≡ nat_lt (rd n) 32 && (nat_lt (rs1 n) 32 && fits_signed 12 (i_immediate n)) → word i ≡ i_type code f3 (rd n) (rs1 n) (residue 12 (i_immediate n)) → encoding i ≡ Some n
i_made i n code f3 lt c h f w =
    made i n (f ∙ all_three _ _ _ (small (n / 2 ^ 7)) (small (n / 2 ^ 15)) (signed_fits 12 (n / 2 ^ 20) (omega arith)))
    (w ∙ i_back n code f3 (residue 12 (i_immediate n)) c h (imm_back n lt))

op_imm_back : (n : ℕ) (i : Inst) → n < 2 ^ 32 → opcode n ≡ 0x13 → decoding_by 0x13 n ≡ Some i → encoding i ≡ Some n
op_imm_back n i lt c h =
    elim (chosen (funct3 n % 4 == 1) (option_map (λ op. Shift op (rd n) (rs1 n) (count n)) (shift_op (funct3 n) (n / 2 ^ 26))) (option_map (λ op. OpImm op (rd n) (rs1 n) (i_immediate n)) (immediate_op (funct3 n))) (Some i) h) [
      | inl p ↦ (
          let m = mapped (λ op. Shift op (rd n) (rs1 n) (count n)) (shift_op (funct3 n) (n / 2 ^ 26)) i p.1 in
          let f = shift_found (funct3 n) (n / 2 ^ 26) m.0 m.1 in
          let imm : shift_funct6 m.0 * 2 ^ 6 + count n ≡ n / 2 ^ 20 = ap (λ k. k * 2 ^ 6 + count n) f.1 ∙ (omega arith) in
          subst (λ i. encoding i ≡ Some n) m.2
          (made (Shift m.0 (rd n) (rs1 n) (count n)) n (all_three _ _ _ (small (n / 2 ^ 7)) (small (n / 2 ^ 15)) (lt_test (count n) 64 (omega arith))) (i_back n 0x13 (shift_funct3 m.0) (shift_funct6 m.0 * 2 ^ 6 + count n) c f.0 imm)))
      | inr p ↦ (
          let m = mapped (λ op. OpImm op (rd n) (rs1 n) (i_immediate n)) (immediate_op (funct3 n)) i p.1 in
          let f = immediate_found (funct3 n) m.0 m.1 in
          subst (λ i. encoding i ≡ Some n) m.2
          (i_made (OpImm m.0 (rd n) (rs1 n) (i_immediate n)) n 0x13 (immediate_funct3 m.0) lt c f refl refl))
    ]

addiw_back : (n : ℕ) (i : Inst) → n < 2 ^ 32 → opcode n ≡ 0x1b → decoding_by 0x1b n ≡ Some i → encoding i ≡ Some n
addiw_back n i lt c h =
    elim (chosen (funct3 n == 0) (Some (Addiw (rd n) (rs1 n) (i_immediate n))) None (Some i) h) [
      | inl p ↦ (
          let e : Addiw (rd n) (rs1 n) (i_immediate n) ≡ i = let q = p.1 in cc in
          subst (λ i. encoding i ≡ Some n) e (i_made (Addiw (rd n) (rs1 n) (i_immediate n)) n 0x1b 0 lt c (sym (eq_of (funct3 n) 0 p.0)) refl refl))
      | inr p ↦ (let q = p.1 in cc)
    ]

load_back : (n : ℕ) (i : Inst) → n < 2 ^ 32 → opcode n ≡ 0x03 → decoding_by 0x03 n ≡ Some i → encoding i ≡ Some n
load_back n i lt c h =
    let m = mapped (λ op. Load op (rd n) (rs1 n) (i_immediate n)) (load_op (funct3 n)) i h in
    let f = load_found (funct3 n) m.0 m.1 in
    subst (λ i. encoding i ≡ Some n) m.2 (i_made (Load m.0 (rd n) (rs1 n) (i_immediate n)) n 0x03 (load_funct3 m.0) lt c f refl refl)

store_back : (n : ℕ) (i : Inst) → n < 2 ^ 32 → opcode n ≡ 0x23 → decoding_by 0x23 n ≡ Some i → encoding i ≡ Some n
store_back n i lt c h =
    let m = mapped (λ op. Store op (rs2 n) (rs1 n) (s_immediate n)) (store_op (funct3 n)) i h in
    let f = store_found (funct3 n) m.0 m.1 in
    let k = n / 2 ^ 25 * 2 ^ 5 + n / 2 ^ 7 % 2 ^ 5 in
    let e : residue 12 (s_immediate n) ≡ n / 2 ^ 25 * 2 ^ 5 + n / 2 ^ 7 % 2 ^ 5 = bits 12 (n / 2 ^ 25 * 2 ^ 5 + n / 2 ^ 7 % 2 ^ 5) (omega arith) (omega arith) in
    subst (λ i. encoding i ≡ Some n) m.2
    (made (Store m.0 (rs2 n) (rs1 n) (s_immediate n)) n (all_three _ _ _ (small (n / 2 ^ 20)) (small (n / 2 ^ 15)) (signed_fits 12 k (omega arith))) (s_back n 0x23 (store_funct3 m.0) (residue 12 (s_immediate n)) c f e))

branch_back : (n : ℕ) (i : Inst) → n < 2 ^ 32 → opcode n ≡ 0x63 → decoding_by 0x63 n ≡ Some i → encoding i ≡ Some n
branch_back n i lt c h =
    let m = mapped (λ op. Branch op (rs1 n) (rs2 n) (b_immediate n)) (branch_op (funct3 n)) i h in
    let f = branch_found (funct3 n) m.0 m.1 in
    let k = n / 2 ^ 31 * 2 ^ 12 + n / 2 ^ 7 % 2 * 2 ^ 11 + n / 2 ^ 25 % 2 ^ 6 * 2 ^ 5 + n / 2 ^ 8 % 2 ^ 4 * 2 in
    let e : residue 13 (b_immediate n) ≡ n / 2 ^ 31 * 2 ^ 12 + n / 2 ^ 7 % 2 * 2 ^ 11 + n / 2 ^ 25 % 2 ^ 6 * 2 ^ 5 + n / 2 ^ 8 % 2 ^ 4 * 2 = bits 13 k (omega arith) (omega arith) in
    subst (λ i. encoding i ≡ Some n) m.2
    (made (Branch m.0 (rs1 n) (rs2 n) (b_immediate n)) n (all_three _ _ _ (small (n / 2 ^ 15)) (small (n / 2 ^ 20)) (even_fits 13 k (omega arith) e (omega arith))) (b_back n 0x63 (branch_funct3 m.0) (residue 13 (b_immediate n)) c f e))

two : (a b : Bool) → a ≡ true → b ≡ true → a && b ≡ true
two a b f g = grind (arith, f, g)

u_made : (i : Inst) (n code : ℕ) → n < 2 ^ 32 → opcode n ≡ code → fits i ≡ nat_lt (rd n) 32 && fits_signed 20 (u_immediate n) → word i ≡ u_type code (rd n) (residue 20 (u_immediate n)) → encoding i ≡ Some n
u_made i n code lt c f w =
    made i n (f ∙ two _ _ (small (n / 2 ^ 7)) (signed_fits 20 (n / 2 ^ 12) (omega arith)))
    (w ∙ u_back n code (residue 20 (u_immediate n)) c (bits 20 (n / 2 ^ 12) (omega arith) (omega arith)))

lui_back : (n : ℕ) (i : Inst) → n < 2 ^ 32 → opcode n ≡ 0x37 → decoding_by 0x37 n ≡ Some i → encoding i ≡ Some n
lui_back n i lt c h =
    let e : Lui (rd n) (u_immediate n) ≡ i = cc in
    subst (λ i. encoding i ≡ Some n) e (u_made (Lui (rd n) (u_immediate n)) n 0x37 lt c refl refl)

auipc_back : (n : ℕ) (i : Inst) → n < 2 ^ 32 → opcode n ≡ 0x17 → decoding_by 0x17 n ≡ Some i → encoding i ≡ Some n
auipc_back n i lt c h =
    let e : Auipc (rd n) (u_immediate n) ≡ i = cc in
    subst (λ i. encoding i ≡ Some n) e (u_made (Auipc (rd n) (u_immediate n)) n 0x17 lt c refl refl)

jal_back : (n : ℕ) (i : Inst) → n < 2 ^ 32 → opcode n ≡ 0x6f → decoding_by 0x6f n ≡ Some i → encoding i ≡ Some n
jal_back n i lt c h =
    let k = n / 2 ^ 31 * 2 ^ 20 + n / 2 ^ 12 % 2 ^ 8 * 2 ^ 12 + n / 2 ^ 20 % 2 * 2 ^ 11 + n / 2 ^ 21 % 2 ^ 10 * 2 in
    let e : Jal (rd n) (j_immediate n) ≡ i = cc in
    let r : residue 21 (j_immediate n) ≡ n / 2 ^ 31 * 2 ^ 20 + n / 2 ^ 12 % 2 ^ 8 * 2 ^ 12 + n / 2 ^ 20 % 2 * 2 ^ 11 + n / 2 ^ 21 % 2 ^ 10 * 2 = bits 21 k (omega arith) (omega arith) in
    subst (λ i. encoding i ≡ Some n) e
    (made (Jal (rd n) (j_immediate n)) n (two _ _ (small (n / 2 ^ 7)) (even_fits 21 k (omega arith) r (omega arith))) (j_back n 0x6f (residue 21 (j_immediate n)) c r))

jalr_back : (n : ℕ) (i : Inst) → n < 2 ^ 32 → opcode n ≡ 0x67 → decoding_by 0x67 n ≡ Some i → encoding i ≡ Some n
jalr_back n i lt c h =
    elim (chosen (funct3 n == 0) (Some (Jalr (rd n) (rs1 n) (i_immediate n))) None (Some i) h) [
      | inl p ↦ (
          let e : Jalr (rd n) (rs1 n) (i_immediate n) ≡ i = let q = p.1 in cc in
          subst (λ i. encoding i ≡ Some n) e (i_made (Jalr (rd n) (rs1 n) (i_immediate n)) n 0x67 0 lt c (sym (eq_of (funct3 n) 0 p.0)) refl refl))
      | inr p ↦ (let q = p.1 in cc)
    ]

ebreak_back : (n : ℕ) (i : Inst) → n < 2 ^ 32 → opcode n ≡ 0x73 → decoding_by 0x73 n ≡ Some i → encoding i ≡ Some n
ebreak_back n i lt c h =
    elim (chosen (n == 0x00100073) (Some Ebreak) None (Some i) h) [
      | inl p ↦ (
          let e : Ebreak ≡ i = let q = p.1 in cc in
          subst (λ i. encoding i ≡ Some n) e (ap Some (sym (eq_of n 0x00100073 p.0))))
      | inr p ↦ (let q = p.1 in cc)
    ]

-- one of the opcodes, or no instruction
by_opcode : (n code : ℕ) (rest : Option Inst) (i : Inst) → (opcode n ≡ code → decoding_by code n ≡ Some i → encoding i ≡ Some n) → (rest ≡ Some i → encoding i ≡ Some n) → cond (opcode n == code) (decoding_by code n) rest ≡ Some i → encoding i ≡ Some n
by_opcode n code rest i f g h =
    elim (chosen (opcode n == code) (decoding_by code n) rest (Some i) h) [
      | inl p ↦ f (eq_of (opcode n) code p.0) p.1
      | inr p ↦ g p.1
    ]

pub decoding_back : (n : ℕ) (i : Inst) → n < 2 ^ 32 → decoding n ≡ Some i → encoding i ≡ Some n
unfolding decoding
decoding_back n i lt h =
    by_opcode n 0x33 _ i (op_back n i lt) (λ h.
    by_opcode n 0x13 _ i (op_imm_back n i lt) (λ h.
    by_opcode n 0x1b _ i (addiw_back n i lt) (λ h.
    by_opcode n 0x03 _ i (load_back n i lt) (λ h.
    by_opcode n 0x23 _ i (store_back n i lt) (λ h.
    by_opcode n 0x63 _ i (branch_back n i lt) (λ h.
    by_opcode n 0x37 _ i (lui_back n i lt) (λ h.
    by_opcode n 0x17 _ i (auipc_back n i lt) (λ h.
    by_opcode n 0x6f _ i (jal_back n i lt) (λ h.
    by_opcode n 0x67 _ i (jalr_back n i lt) (λ h.
    by_opcode n 0x73 _ i (ebreak_back n i lt) (λ h. let q = h in cc) h) h) h) h) h) h) h) h) h) h) h

pub inverse : (n : ℕ) (i : Inst) → n < 2 ^ 32 → decoding n ≡ Some i ↔ encoding i ≡ Some n
inverse n i lt = (decoding_back n i lt, encoding_back i n)
