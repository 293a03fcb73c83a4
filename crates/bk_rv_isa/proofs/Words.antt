-- The word of an instruction is read as this instruction.
use Rattle.std.proofs.Common.{◌≡◌, ℕ, ◌+◌, ◌*◌, ◌/◌, ◌%◌, ◌^◌, ◌<◌, ap, ◌∙◌, subst, arith, refl, ℤ, Bool, true, false, Some, None, inl, inr}
use Rattle.std.specs.Prelude.{◌&&◌, nat_lt}
use Rattle.std.proofs.lemmas.Bool.Decides.{nat_tests}
use Rattle.bk_num.specs.Word.{signed, residue, fits_signed}
use Rattle.bk_num.proofs.Signs.{signed_residue, residue_below}
use Rattle.bk_rv_isa.specs.declared.inst.RegisterOp.{RegisterOp}
use Rattle.bk_rv_isa.specs.declared.inst.ImmediateOp.{ImmediateOp}
use Rattle.bk_rv_isa.specs.declared.inst.ShiftOp.{ShiftOp}
use Rattle.bk_rv_isa.specs.declared.inst.LoadOp.{LoadOp}
use Rattle.bk_rv_isa.specs.declared.inst.StoreOp.{StoreOp}
use Rattle.bk_rv_isa.specs.declared.inst.BranchOp.{BranchOp}
use Rattle.bk_rv_isa.specs.declared.inst.Inst.{Inst}
use Rattle.bk_rv_isa.specs.declared.inst.Inst.TheVariants.{Op, OpImm, Shift, Addiw, Load, Store, Branch, Lui, Auipc, Jal, Jalr, Ebreak}
use Rattle.bk_rv_isa.specs.Encoding.{r_type, i_type, s_type, b_type, u_type, j_type, register_funct3, register_funct7, immediate_funct3, shift_funct3, shift_funct6, load_funct3, store_funct3, branch_funct3, fits, word, encoding, opcode, funct3, funct7, rd, rs1, rs2, count, decoding_by, decoding}
use Rattle.bk_rv_isa.proofs.Rows.{chosen, both, eq_of, register_there, register_below, shift_there, shift_below, shift_rows, immediate_there, immediate_below, immediate_rows, load_there, load_below, store_there, store_below, branch_there, branch_below}

pub less : (a b : ℕ) → nat_lt a b ≡ true → a < b
less a b h = grind (arith, nat_tests)

pub three : (a b c : Bool) → a && (b && c) ≡ true → (a ≡ true) × (b ≡ true) × (c ≡ true)
three true true c h = (refl, refl, h)
three true false c h = cc
three false b c h = cc

by_code : (n code : ℕ) → opcode n ≡ code → decoding n ≡ decoding_by code n
unfolding decoding
by_code n code h = ap (λ c. decoding_by c n) h

-- the fields of a word, format by format

r_fields : (n code f3 f7 d a b : ℕ) → n ≡ r_type code f3 f7 d a b → code < 128 → f3 < 8 → f7 < 128 → d < 32 → a < 32 → b < 32 → (opcode n ≡ code) × (funct3 n ≡ f3) × (funct7 n ≡ f7) × (rd n ≡ d) × (rs1 n ≡ a) × (rs2 n ≡ b)
r_fields n code f3 f7 d a b e ha hb hc hd he hf = (omega arith, omega arith, omega arith, omega arith, omega arith, omega arith)

i_fields : (n code f3 d a imm : ℕ) → n ≡ i_type code f3 d a imm → code < 128 → f3 < 8 → d < 32 → a < 32 → (opcode n ≡ code) × (funct3 n ≡ f3) × (rd n ≡ d) × (rs1 n ≡ a) × (n / 2 ^ 20 ≡ imm)
i_fields n code f3 d a imm e ha hb hc hd = (omega arith, omega arith, omega arith, omega arith, omega arith)

s_fields : (n code f3 a b imm : ℕ) → n ≡ s_type code f3 a b imm → code < 128 → f3 < 8 → a < 32 → b < 32 → imm < 2 ^ 12 → (opcode n ≡ code) × (funct3 n ≡ f3) × (rs1 n ≡ a) × (rs2 n ≡ b) × (n / 2 ^ 25 * 2 ^ 5 + n / 2 ^ 7 % 2 ^ 5 ≡ imm)
s_fields n code f3 a b imm e ha hb hc hd he = (omega arith, omega arith, omega arith, omega arith, omega arith)

b_fields : (n code f3 a b imm : ℕ) → n ≡ b_type code f3 a b imm → code < 128 → f3 < 8 → a < 32 → b < 32 → imm < 2 ^ 13 → imm % 2 ≡ 0 → (opcode n ≡ code) × (funct3 n ≡ f3) × (rs1 n ≡ a) × (rs2 n ≡ b) × (n / 2 ^ 31 * 2 ^ 12 + n / 2 ^ 7 % 2 * 2 ^ 11 + n / 2 ^ 25 % 2 ^ 6 * 2 ^ 5 + n / 2 ^ 8 % 2 ^ 4 * 2 ≡ imm)
b_fields n code f3 a b imm e ha hb hc hd he even =
    let i1 : n / 2 ^ 31 ≡ imm / 2 ^ 12 = omega arith in
    let i2 : n / 2 ^ 7 % 2 ≡ imm / 2 ^ 11 % 2 = omega arith in
    let i3 : n / 2 ^ 25 % 2 ^ 6 ≡ imm / 2 ^ 5 % 2 ^ 6 = omega arith in
    let i4 : n / 2 ^ 8 % 2 ^ 4 ≡ imm / 2 % 2 ^ 4 = omega arith in
    (omega arith, omega arith, omega arith, omega arith, omega arith)

u_fields : (n code d imm : ℕ) → n ≡ u_type code d imm → code < 128 → d < 32 → (opcode n ≡ code) × (rd n ≡ d) × (n / 2 ^ 12 ≡ imm)
u_fields n code d imm e ha hb = (omega arith, omega arith, omega arith)

j_fields : (n code d imm : ℕ) → n ≡ j_type code d imm → code < 128 → d < 32 → imm < 2 ^ 21 → imm % 2 ≡ 0 → (opcode n ≡ code) × (rd n ≡ d) × (n / 2 ^ 31 * 2 ^ 20 + n / 2 ^ 12 % 2 ^ 8 * 2 ^ 12 + n / 2 ^ 20 % 2 * 2 ^ 11 + n / 2 ^ 21 % 2 ^ 10 * 2 ≡ imm)
j_fields n code d imm e ha hb hc even =
    let i1 : n / 2 ^ 31 ≡ imm / 2 ^ 20 = omega arith in
    let i2 : n / 2 ^ 12 % 2 ^ 8 ≡ imm / 2 ^ 12 % 2 ^ 8 = omega arith in
    let i3 : n / 2 ^ 20 % 2 ≡ imm / 2 ^ 11 % 2 = omega arith in
    let i4 : n / 2 ^ 21 % 2 ^ 10 ≡ imm / 2 % 2 ^ 10 = omega arith in
    (omega arith, omega arith, omega arith)

-- the instruction of a word, row by row

op_read : (n : ℕ) (op : RegisterOp) (d a b : ℕ) → n ≡ word (Op op d a b) → d < 32 → a < 32 → b < 32 → decoding n ≡ Some (Op op d a b)
op_read n op d a b e hd ha hb =
    let s = register_below op in
    let f = r_fields n 0x33 (register_funct3 op) (register_funct7 op) d a b e (omega arith) s.0 s.1 hd ha hb in
    let c = by_code n 0x33 f.0 in
    let t = register_there op in
    cc

op_imm_read : (n : ℕ) (op : ImmediateOp) (d a imm : ℕ) → n ≡ i_type 0x13 (immediate_funct3 op) d a imm → d < 32 → a < 32 → decoding n ≡ Some (OpImm op d a (signed 12 imm))
op_imm_read n op d a imm e hd ha =
    let f = i_fields n 0x13 (immediate_funct3 op) d a imm e (omega arith) (immediate_below op) hd ha in
    let c = by_code n 0x13 f.0 in
    let t = immediate_there op in
    let r = immediate_rows op in
    cc

shift_read : (n : ℕ) (op : ShiftOp) (d a k : ℕ) → n ≡ word (Shift op d a k) → d < 32 → a < 32 → k < 64 → decoding n ≡ Some (Shift op d a k)
shift_read n op d a k e hd ha hk =
    let s = shift_below op in
    let f = i_fields n 0x13 (shift_funct3 op) d a (shift_funct6 op * 2 ^ 6 + k) e (omega arith) s.0 hd ha in
    let h6 : n / 2 ^ 26 ≡ shift_funct6 op = omega arith in
    let hc : count n ≡ k = omega arith in
    let c = by_code n 0x13 f.0 in
    let t = shift_there op in
    let r = shift_rows op in
    cc

addiw_read : (n d a imm : ℕ) → n ≡ i_type 0x1b 0 d a imm → d < 32 → a < 32 → decoding n ≡ Some (Addiw d a (signed 12 imm))
addiw_read n d a imm e hd ha =
    let f = i_fields n 0x1b 0 d a imm e (omega arith) (omega arith) hd ha in
    let c = by_code n 0x1b f.0 in
    cc

load_read : (n : ℕ) (op : LoadOp) (d a imm : ℕ) → n ≡ i_type 0x03 (load_funct3 op) d a imm → d < 32 → a < 32 → decoding n ≡ Some (Load op d a (signed 12 imm))
load_read n op d a imm e hd ha =
    let f = i_fields n 0x03 (load_funct3 op) d a imm e (omega arith) (load_below op) hd ha in
    let c = by_code n 0x03 f.0 in
    let t = load_there op in
    cc

store_read : (n : ℕ) (op : StoreOp) (b a imm : ℕ) → n ≡ s_type 0x23 (store_funct3 op) a b imm → b < 32 → a < 32 → imm < 2 ^ 12 → decoding n ≡ Some (Store op b a (signed 12 imm))
store_read n op b a imm e hb ha hi =
    let f = s_fields n 0x23 (store_funct3 op) a b imm e (omega arith) (store_below op) ha hb hi in
    let c = by_code n 0x23 f.0 in
    let t = store_there op in
    cc

branch_read : (n : ℕ) (op : BranchOp) (a b imm : ℕ) → n ≡ b_type 0x63 (branch_funct3 op) a b imm → a < 32 → b < 32 → imm < 2 ^ 13 → imm % 2 ≡ 0 → decoding n ≡ Some (Branch op a b (signed 13 imm))
branch_read n op a b imm e ha hb hi even =
    let f = b_fields n 0x63 (branch_funct3 op) a b imm e (omega arith) (branch_below op) ha hb hi even in
    let c = by_code n 0x63 f.0 in
    let t = branch_there op in
    cc

lui_read : (n d imm : ℕ) → n ≡ u_type 0x37 d imm → d < 32 → decoding n ≡ Some (Lui d (signed 20 imm))
lui_read n d imm e hd =
    let f = u_fields n 0x37 d imm e (omega arith) hd in
    let c = by_code n 0x37 f.0 in
    cc

auipc_read : (n d imm : ℕ) → n ≡ u_type 0x17 d imm → d < 32 → decoding n ≡ Some (Auipc d (signed 20 imm))
auipc_read n d imm e hd =
    let f = u_fields n 0x17 d imm e (omega arith) hd in
    let c = by_code n 0x17 f.0 in
    cc

jal_read : (n d imm : ℕ) → n ≡ j_type 0x6f d imm → d < 32 → imm < 2 ^ 21 → imm % 2 ≡ 0 → decoding n ≡ Some (Jal d (signed 21 imm))
jal_read n d imm e hd hi even =
    let f = j_fields n 0x6f d imm e (omega arith) hd hi even in
    let c = by_code n 0x6f f.0 in
    cc

jalr_read : (n d a imm : ℕ) → n ≡ i_type 0x67 0 d a imm → d < 32 → a < 32 → decoding n ≡ Some (Jalr d a (signed 12 imm))
jalr_read n d a imm e hd ha =
    let f = i_fields n 0x67 0 d a imm e (omega arith) (omega arith) hd ha in
    let c = by_code n 0x67 f.0 in
    cc

kept12 : (z : ℤ) → fits_signed 12 z ≡ true → signed 12 (residue 12 z) ≡ z
kept12 z h = signed_residue 12 z (omega arith) h

pub decode_word : (i : Inst) → fits i ≡ true → decoding (word i) ≡ Some i
decode_word (Op op d a b) h = let t = three _ _ _ h in op_read _ op d a b refl (less _ _ t.0) (less _ _ t.1) (less _ _ t.2)
decode_word (OpImm op d a z) h = let t = three _ _ _ h in op_imm_read _ op d a (residue 12 z) refl (less _ _ t.0) (less _ _ t.1) ∙ ap (λ z. Some (OpImm op d a z)) (kept12 z t.2)
decode_word (Shift op d a k) h = let t = three _ _ _ h in shift_read _ op d a k refl (less _ _ t.0) (less _ _ t.1) (less _ _ t.2)
decode_word (Addiw d a z) h = let t = three _ _ _ h in addiw_read _ d a (residue 12 z) refl (less _ _ t.0) (less _ _ t.1) ∙ ap (λ z. Some (Addiw d a z)) (kept12 z t.2)
decode_word (Load op d a z) h = let t = three _ _ _ h in load_read _ op d a (residue 12 z) refl (less _ _ t.0) (less _ _ t.1) ∙ ap (λ z. Some (Load op d a z)) (kept12 z t.2)
decode_word (Store op b a z) h = let t = three _ _ _ h in store_read _ op b a (residue 12 z) refl (less _ _ t.0) (less _ _ t.1) (residue_below 12 z) ∙ ap (λ z. Some (Store op b a z)) (kept12 z t.2)
decode_word (Branch op a b z) h =
    let t = three _ _ _ h in
    let p = both _ _ t.2 in
    branch_read _ op a b (residue 13 z) refl (less _ _ t.0) (less _ _ t.1) (residue_below 13 z) (eq_of _ _ p.1) ∙ ap (λ z. Some (Branch op a b z)) (signed_residue 13 z (omega arith) p.0)
decode_word (Lui d z) h = let p = both _ _ h in lui_read _ d (residue 20 z) refl (less _ _ p.0) ∙ ap (λ z. Some (Lui d z)) (signed_residue 20 z (omega arith) p.1)
decode_word (Auipc d z) h = let p = both _ _ h in auipc_read _ d (residue 20 z) refl (less _ _ p.0) ∙ ap (λ z. Some (Auipc d z)) (signed_residue 20 z (omega arith) p.1)
decode_word (Jal d z) h =
    let t = both _ _ h in
    let p = both _ _ t.1 in
    jal_read _ d (residue 21 z) refl (less _ _ t.0) (residue_below 21 z) (eq_of _ _ p.1) ∙ ap (λ z. Some (Jal d z)) (signed_residue 21 z (omega arith) p.0)
decode_word (Jalr d a z) h = let t = three _ _ _ h in jalr_read _ d a (residue 12 z) refl (less _ _ t.0) (less _ _ t.1) ∙ ap (λ z. Some (Jalr d a z)) (kept12 z t.2)
decode_word Ebreak h = by_code 0x00100073 0x73 refl

pub encoding_back : (i : Inst) (n : ℕ) → encoding i ≡ Some n → decoding n ≡ Some i
encoding_back i n h =
    elim (chosen (fits i) (Some (word i)) None (Some n) h) [
      | inl p ↦ (let e : word i ≡ n = let q = p.1 in cc in subst (λ w. decoding w ≡ Some i) e (decode_word i p.0))
      | inr p ↦ (let q = p.1 in cc)
    ]

pub once : (i j : Inst) (n : ℕ) → encoding i ≡ Some n → encoding j ≡ Some n → i ≡ j
once i j n h k = let a = encoding_back i n h in let b = encoding_back j n k in cc
