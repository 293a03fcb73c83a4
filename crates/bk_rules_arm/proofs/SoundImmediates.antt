-- Families in which a constant stands beside the machine op are sound.
use Rattle.std.proofs.Common.{◌≡◌, ℕ, ◌+◌, ◌-◌, ◌*◌, ◌/◌, ◌%◌, ◌^◌, ◌<◌, refl, ap, sym, ◌∙◌, arith, bit_and, bit_xor, ℤ, pos, true, nat_lt}
use Rattle.std.specs.Int.{int_div_euclid}
use Rattle.std.proofs.lemmas.Bool.{ltb-true}
use Rattle.std.proofs.Math.Nat.{mod-eq_of_lt}
use Rattle.bk_num.specs.Word.{signed, residue}
use Rattle.bk_num.proofs.Signs.{residue_below}
use Rattle.bk_ops.proofs.LowBits.{residue-low, residue-signed}
use Rattle.bk_ops.specs.declared.types.Target.TheVariants.{Arm}
use Rattle.bk_ops.specs.declared.family.Family.TheVariants as generic
use Rattle.bk_ops.specs.declared.family.ArmOp.TheVariants as arm
use Rattle.bk_ops.specs.Formulas.{formula, arm_formula}
use Rattle.bk_ops.specs.Table.{row, arm_row, entry}
use Rattle.bk_rule.specs.Expressions.{word, wrap}
use Rattle.bk_rules_words.specs.Sound.{SoundInWords}
use Rattle.bk_rule.proofs.Opened.{opened}
use Rattle.bk_rules_words.specs.declared.lines.Fits.TheVariants.{ArmImm, Below, FromOne}
use Rattle.bk_rules_words.specs.Families.{immediate, negated}
use Rattle.bk_rules_words.proofs.LowBits.{held_constant}
use Rattle.bk_rules_words.proofs.LoadStore.{is_met, met}

-- ---- sums and bits
pub add_constant : SoundInWords Arm (immediate (generic.Arm arm.Add) (generic.Arm arm.Const) (generic.Arm arm.Addi) ArmImm)
unfolding SoundInWords opened formula arm_formula row arm_row entry
add_constant e s t1 k1 x1 y g ty k kk x d = (λ n q. q ∙ ap (λ i. (e.value 0 % 2 ^ 32 + i) % 2 ^ 32 % 2 ^ 32) (held_constant 32 (e.int 1) y g), refl, λ calls p places f a l. refl)

-- a difference from what 64 bits make of 2 ^ 64 - u
less_back : (x u : ℕ) → u < 2 ^ 64 → (x + (2 ^ 32 - (2 ^ 64 - u) % 2 ^ 32)) % 2 ^ 32 ≡ (x + u % 2 ^ 32) % 2 ^ 32
less_back x u l = omega arith

less_negated : (x y : ℕ) (c : ℤ) → y % 2 ^ 32 ≡ residue 32 c % 2 ^ 32 → (x + (2 ^ 32 - residue 32 (wrap (2 ^ 64 - word c)))) % 2 ^ 32 ≡ (x + y % 2 ^ 32) % 2 ^ 32
less_negated x y c g =
    ap (λ i. (x + (2 ^ 32 - i)) % 2 ^ 32) (residue-signed 32 64 (2 ^ 64 - word c) (omega arith)) ∙
    (less_back x (word c) (residue_below 64 c) ∙ ap (λ i. (x + i) % 2 ^ 32) (residue-low 32 64 c (omega arith) ∙ held_constant 32 c y g))

pub sub_constant : SoundInWords Arm (negated (generic.Arm arm.Add) (generic.Arm arm.Const) (generic.Arm arm.Subi) ArmImm)
unfolding SoundInWords opened formula arm_formula row arm_row entry
sub_constant e s t1 k1 x1 y g ty k kk x d = (λ n q. q ∙ ap (λ i. i % 2 ^ 32) (less_negated (e.value 0 % 2 ^ 32) y (e.int 1) g), refl, λ calls p places f a l. refl)

pub and_constant : SoundInWords Arm (immediate (generic.Arm arm.And) (generic.Arm arm.Const) (generic.Arm arm.Andi) ArmImm)
unfolding SoundInWords opened formula arm_formula row arm_row entry
and_constant e s t1 k1 x1 y g ty k kk x d = (λ n q. q ∙ ap (λ i. bit_and (e.value 0 % 2 ^ 32) i % 2 ^ 32) (held_constant 32 (e.int 1) y g), refl, λ calls p places f a l. refl)

pub xor_constant : SoundInWords Arm (immediate (generic.Arm arm.Eor) (generic.Arm arm.Const) (generic.Arm arm.Eori) ArmImm)
unfolding SoundInWords opened formula arm_formula row arm_row entry
xor_constant e s t1 k1 x1 y g ty k kk x d = (λ n q. q ∙ ap (λ i. bit_xor (e.value 0 % 2 ^ 32) i % 2 ^ 32) (held_constant 32 (e.int 1) y g), refl, λ calls p places f a l. refl)

-- ---- shifts, whose count is the whole constant
count_held : (c : ℤ) (y : ℕ) → word c < 2 ^ 32 → y % 2 ^ 32 ≡ residue 32 c % 2 ^ 32 → residue 64 c ≡ y % 2 ^ 32
count_held c y l g = sym (mod-eq_of_lt l) ∙ (residue-low 32 64 c (omega arith) ∙ held_constant 32 c y g)

below_32 : (c : ℤ) → is_met (nat_lt (word c) 32) ≡ true → word c < 2 ^ 32
below_32 c d = let b : word c < 32 = ltb-true (word c) 32 (met (nat_lt (word c) 32) d) in omega arith

from_1_to_31 : (c : ℤ) → is_met (nat_lt (word (wrap (word c + (2 ^ 64 - 1)))) 31) ≡ true → word c < 2 ^ 32
from_1_to_31 c d =
    let b : word (wrap (word c + (2 ^ 64 - 1))) < 31 = ltb-true (word (wrap (word c + (2 ^ 64 - 1)))) 31 (met (nat_lt (word (wrap (word c + (2 ^ 64 - 1)))) 31) d) in
    let e : word (wrap (word c + (2 ^ 64 - 1))) ≡ (word c + (2 ^ 64 - 1)) % 2 ^ 64 = residue-signed 64 64 (word c + (2 ^ 64 - 1)) (omega arith) in
    small (word c) (word (wrap (word c + (2 ^ 64 - 1)))) (residue_below 64 c) e b
  where
    small : (u k : ℕ) → u < 2 ^ 64 → k ≡ (u + (2 ^ 64 - 1)) % 2 ^ 64 → k < 31 → u < 2 ^ 32
    small u k l e b = omega arith

pub left_constant : SoundInWords Arm (immediate (generic.Arm arm.Lsl) (generic.Arm arm.Const) (generic.Arm arm.Lsli) (Below (pos 32)))
unfolding SoundInWords opened formula arm_formula row arm_row entry
left_constant e s t1 k1 x1 y g ty k kk x d = (λ n q. q ∙ ap (λ i. e.value 0 % 2 ^ 32 * 2 ^ i % 2 ^ 32 % 2 ^ 32) (count_held (e.int 1) y (below_32 (e.int 1) d.0) g), refl, λ calls p places f a l. refl)

pub right_constant : SoundInWords Arm (immediate (generic.Arm arm.Lsr) (generic.Arm arm.Const) (generic.Arm arm.Lsri) (FromOne (pos 31)))
unfolding SoundInWords opened formula arm_formula row arm_row entry
right_constant e s t1 k1 x1 y g ty k kk x d = (λ n q. q ∙ ap (λ i. e.value 0 % 2 ^ 32 / 2 ^ i % 2 ^ 32) (count_held (e.int 1) y (from_1_to_31 (e.int 1) d.0) g), refl, λ calls p places f a l. refl)

pub signed_constant : SoundInWords Arm (immediate (generic.Arm arm.Asr) (generic.Arm arm.Const) (generic.Arm arm.Asri) (FromOne (pos 31)))
unfolding SoundInWords opened formula arm_formula row arm_row entry
signed_constant e s t1 k1 x1 y g ty k kk x d = (λ n q. q ∙ ap (λ i. residue 32 (int_div_euclid (signed 32 (e.value 0 % 2 ^ 32)) (pos (2 ^ i))) % 2 ^ 32) (count_held (e.int 1) y (from_1_to_31 (e.int 1) d.0) g), refl, λ calls p places f a l. refl)
