-- The fields of a word that an instruction has.
use Rattle.std.proofs.Common.{◌≡◌, ◌≢◌, ℕ, ◌+◌, ◌*◌, ◌/◌, ◌%◌, ◌^◌, ◌<◌, arith, refl, Bool, true, false, Some, None, Option, ◌&&◌, ◌⊎◌, inl, inr, cond}
use Rattle.std.specs.Prelude.{nat_lt}
use Rattle.std.proofs.lemmas.Bool.Decides.{nat_tests}
use Rattle.bk_arm_isa.specs.declared.Condition.{Condition}
use Rattle.bk_arm_isa.specs.declared.Condition.TheVariants.{Eq, Ne, Cs, Cc, Mi, Pl, Vs, Vc, Hi, Ls, Ge, Lt, Gt, Le, Al}
use Rattle.bk_arm_isa.specs.declared.DataOp.{DataOp}
use Rattle.bk_arm_isa.specs.declared.DataOp.TheVariants.{And, Eor, Sub, Rsb, Add, Adc, Sbc, Rsc, Orr, Bic}
use Rattle.bk_arm_isa.specs.declared.Shift.{Shift}
use Rattle.bk_arm_isa.specs.declared.Shift.TheVariants.{Lsl, Lsr, Asr, Ror}
use Rattle.bk_arm_isa.specs.declared.Operand2.{Operand2}
use Rattle.bk_arm_isa.specs.declared.Operand2.TheVariants.{Immediate, ShiftImmediate, ShiftRegister}
use Rattle.bk_arm_isa.specs.Encoding.{condition_number, data_opcode, shift_number, is_amount, placed, processed}

pub condition_below : (c : Condition) → condition_number c < 15
condition_below Eq = omega arith
condition_below Ne = omega arith
condition_below Cs = omega arith
condition_below Cc = omega arith
condition_below Mi = omega arith
condition_below Pl = omega arith
condition_below Vs = omega arith
condition_below Vc = omega arith
condition_below Hi = omega arith
condition_below Ls = omega arith
condition_below Ge = omega arith
condition_below Lt = omega arith
condition_below Gt = omega arith
condition_below Le = omega arith
condition_below Al = omega arith

pub shift_below : (s : Shift) → shift_number s < 4
shift_below Lsl = omega arith
shift_below Lsr = omega arith
shift_below Asr = omega arith
shift_below Ror = omega arith

pub amount_below : (s : Shift) (k : ℕ) → is_amount s k ≡ true → k < 32
amount_below Lsl k h = grind (arith, nat_tests)
amount_below Lsr k h = grind (arith, nat_tests)
amount_below Asr k h = grind (arith, nat_tests)
amount_below Ror k h = grind (arith, nat_tests)

-- what a placed word is
pub record Placed (c base r16 r12 r8 r0 n : ℕ) : Type 0 where
  pub condition : c < 15
  pub word : n ≡ c * 2 ^ 28 + base + (r16 * 2 ^ 16 + r12 * 2 ^ 12 + r8 * 2 ^ 8 + r0)
  pub r16_below : r16 < 15
  pub r12_below : r12 < 15
  pub r8_below : r8 < 15
  pub r0_below : r0 < 15

pub placed_word : (c : Condition) (base r16 r12 r8 r0 n : ℕ) → placed c base r16 r12 r8 r0 ≡ Some n → Placed (condition_number c) base r16 r12 r8 r0 n
placed_word c base r16 r12 r8 r0 n e = record {
  condition = condition_below c;
  word = grind (arith, nat_tests);
  r16_below = grind (arith, nat_tests);
  r12_below = grind (arith, nat_tests);
  r8_below = grind (arith, nat_tests);
  r0_below = grind (arith, nat_tests);
}

pub chosen : (b : Bool) (o : Option ℕ) (n : ℕ) → cond b o None ≡ Some n → (b ≡ true) × (o ≡ Some n)
chosen true o n e = (refl, e)
chosen false o n e = cc

-- the fields of data processing by an opcode with the bit S
pub record Processed (c opcode rn rd n : ℕ) : Type 0 where
  pub condition : c ≡ n / 2 ^ 28
  pub opcode_is : n / 2 ^ 20 % 32 ≡ opcode
  pub rn_is : n / 2 ^ 16 % 16 ≡ rn
  pub rd_is : n / 2 ^ 12 % 16 ≡ rd
  pub form : (n / 2 ^ 20 % 256 ≡ opcode + 32) ⊎ ((n / 2 ^ 20 % 256 ≡ opcode) × (n / 2 ^ 4 % 16 ≢ 9) × (n / 2 ^ 4 % 16 ≢ 11))

pub processed_fields : (c : Condition) (opcode rn rd : ℕ) (o : Operand2) (n : ℕ) → opcode < 32 → processed c opcode rn rd o ≡ Some n → Processed (condition_number c) opcode rn rd n
processed_fields c opcode rn rd (Immediate imm8 rotation) n l e =
    let a = chosen (nat_lt imm8 256 && nat_lt rotation 16) (placed c (opcode * 2 ^ 20 + 2 ^ 25 + (rotation * 2 ^ 8 + imm8)) rn rd 0 0) n e in
    let i : imm8 < 256 = let t = a.0 in grind (arith, nat_tests) in
    let r : rotation < 16 = let t = a.0 in grind (arith, nat_tests) in
    let p = placed_word c (opcode * 2 ^ 20 + 2 ^ 25 + (rotation * 2 ^ 8 + imm8)) rn rd 0 0 n a.1 in
    record {
      condition = omega (arith, p.condition, p.word, p.r16_below, p.r12_below);
      opcode_is = omega (arith, p.condition, p.word, p.r16_below, p.r12_below);
      rn_is = omega (arith, p.condition, p.word, p.r16_below, p.r12_below);
      rd_is = omega (arith, p.condition, p.word, p.r16_below, p.r12_below);
      form = inl (omega (arith, p.condition, p.word, p.r16_below, p.r12_below));
    }
processed_fields c opcode rn rd (ShiftImmediate rm shift imm5) n l e =
    let a = chosen (is_amount shift imm5) (placed c (opcode * 2 ^ 20 + (imm5 * 2 ^ 7 + shift_number shift * 2 ^ 5)) rn rd 0 rm) n e in
    let i : imm5 < 32 = amount_below shift imm5 a.0 in
    let s : shift_number shift < 4 = shift_below shift in
    let p = placed_word c (opcode * 2 ^ 20 + (imm5 * 2 ^ 7 + shift_number shift * 2 ^ 5)) rn rd 0 rm n a.1 in
    record {
      condition = omega (arith, p.condition, p.word, p.r16_below, p.r12_below, p.r0_below);
      opcode_is = omega (arith, p.condition, p.word, p.r16_below, p.r12_below, p.r0_below);
      rn_is = omega (arith, p.condition, p.word, p.r16_below, p.r12_below, p.r0_below);
      rd_is = omega (arith, p.condition, p.word, p.r16_below, p.r12_below, p.r0_below);
      form = inr (omega (arith, p.condition, p.word, p.r16_below, p.r12_below, p.r0_below), omega (arith, p.condition, p.word, p.r16_below, p.r12_below, p.r0_below), omega (arith, p.condition, p.word, p.r16_below, p.r12_below, p.r0_below));
    }
processed_fields c opcode rn rd (ShiftRegister rm shift rs) n l e =
    let s : shift_number shift < 4 = shift_below shift in
    let p = placed_word c (opcode * 2 ^ 20 + 2 ^ 4 + shift_number shift * 2 ^ 5) rn rd rs rm n e in
    record {
      condition = omega (arith, p.condition, p.word, p.r16_below, p.r12_below, p.r8_below, p.r0_below);
      opcode_is = omega (arith, p.condition, p.word, p.r16_below, p.r12_below, p.r8_below, p.r0_below);
      rn_is = omega (arith, p.condition, p.word, p.r16_below, p.r12_below, p.r8_below, p.r0_below);
      rd_is = omega (arith, p.condition, p.word, p.r16_below, p.r12_below, p.r8_below, p.r0_below);
      form = inr (omega (arith, p.condition, p.word, p.r16_below, p.r12_below, p.r8_below, p.r0_below), omega (arith, p.condition, p.word, p.r16_below, p.r12_below, p.r8_below, p.r0_below), omega (arith, p.condition, p.word, p.r16_below, p.r12_below, p.r8_below, p.r0_below));
    }

pub data_opcode_below : (op : DataOp) → data_opcode op < 16
data_opcode_below And = omega arith
data_opcode_below Eor = omega arith
data_opcode_below Sub = omega arith
data_opcode_below Rsb = omega arith
data_opcode_below Add = omega arith
data_opcode_below Adc = omega arith
data_opcode_below Sbc = omega arith
data_opcode_below Rsc = omega arith
data_opcode_below Orr = omega arith
data_opcode_below Bic = omega arith
