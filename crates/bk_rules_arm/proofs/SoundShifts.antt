-- Families of shifts are sound.
use Rattle.std.proofs.Common.{ℕ, ◌*◌, ◌/◌, ◌%◌, ◌^◌, ◌≤◌, refl, ap, ◌∙◌, pos}
use Rattle.std.specs.Int.{int_div_euclid}
use Rattle.bk_num.specs.Word.{signed, residue}
use Rattle.bk_ops.specs.declared.types.Target.TheVariants.{Arm}
use Rattle.bk_ops.specs.declared.family.Family.TheVariants as generic
use Rattle.bk_ops.specs.declared.family.ArmOp.TheVariants as arm
use Rattle.bk_ops.specs.Formulas.{formula, arm_formula}
use Rattle.bk_ops.specs.Table.{row, arm_row, entry}
use Rattle.bk_rule.specs.Trees.{op}
use Rattle.bk_rules_words.specs.Sound.{SoundInWords}
use Rattle.bk_rule.proofs.Opened.{opened}
use Rattle.bk_rules_words.specs.Families.{two, widen_shift, widen_count, as_wide}
use Rattle.bk_rules_words.proofs.LowBits.{low_left}
use Rattle.bk_rules_words.proofs.Extended.{zeros, right_signs, right_zeros}

-- ---- a narrow count
pub left_by_narrow : (w v : ℕ) → v ≤ 32 → SoundInWords Arm (widen_count (op generic.Lsh w v) (op generic.Lsh w 32))
unfolding SoundInWords opened formula arm_formula row arm_row entry
left_by_narrow w v g e s ty k kk x d b p = (λ n q. q ∙ ap (λ i. e.value 0 % 2 ^ w * 2 ^ i % 2 ^ w % 2 ^ w) (zeros v 32 (e.value 1) b g p), refl, λ calls p places f a l. refl)

pub signed_by_narrow : (w v : ℕ) → v ≤ 32 → SoundInWords Arm (widen_count (op generic.Rsh w v) (op generic.Rsh w 32))
unfolding SoundInWords opened formula arm_formula row arm_row entry
signed_by_narrow w v g e s ty k kk x d b p = (λ n q. q ∙ ap (λ i. residue w (int_div_euclid (signed w (e.value 0 % 2 ^ w)) (pos (2 ^ i))) % 2 ^ w) (zeros v 32 (e.value 1) b g p), refl, λ calls p places f a l. refl)

pub right_by_narrow : (w v : ℕ) → v ≤ 32 → SoundInWords Arm (widen_count (op generic.RshU w v) (op generic.RshU w 32))
unfolding SoundInWords opened formula arm_formula row arm_row entry
right_by_narrow w v g e s ty k kk x d b p = (λ n q. q ∙ ap (λ i. e.value 0 % 2 ^ w / 2 ^ i % 2 ^ w) (zeros v 32 (e.value 1) b g p), refl, λ calls p places f a l. refl)

-- ---- a narrow number
pub narrow_left : (w : ℕ) → w ≤ 32 → SoundInWords Arm (as_wide (op generic.Lsh w 32) (op generic.Lsh 32 32))
unfolding SoundInWords opened formula arm_formula row arm_row entry
narrow_left w h e s ty k kk x d = (λ n q. low_left w 32 (e.value 0) (e.value 1 % 2 ^ 32) n h q, refl, λ calls p places f a l. refl)

pub narrow_right_signed : (w : ℕ) → 1 ≤ w → w ≤ 32 → SoundInWords Arm (widen_shift (op generic.Rsh w 32) (op generic.Rsh 32 32) generic.SignExt)
unfolding SoundInWords opened formula arm_formula row arm_row entry
narrow_right_signed w l h e s ty k kk x d a p = (λ n q. right_signs w 32 (e.value 0) a (e.value 1 % 2 ^ 32) n l h p q, refl, λ calls p places f a l. refl)

pub narrow_right : (w : ℕ) → w ≤ 32 → SoundInWords Arm (widen_shift (op generic.RshU w 32) (op generic.RshU 32 32) generic.ZeroExt)
unfolding SoundInWords opened formula arm_formula row arm_row entry
narrow_right w h e s ty k kk x d a p = (λ n q. right_zeros w 32 (e.value 0) a (e.value 1 % 2 ^ 32) n h p q, refl, λ calls p places f a l. refl)

-- ---- what is the same at 32 bits
pub left_sound : SoundInWords Arm (two generic.Lsh (generic.Arm arm.Lsl) 32 32)
unfolding SoundInWords opened formula arm_formula row arm_row entry
left_sound e s ty k kk x d = (λ n q. q, refl, λ calls p places f a l. refl)

pub right_sound : SoundInWords Arm (two generic.RshU (generic.Arm arm.Lsr) 32 32)
unfolding SoundInWords opened formula arm_formula row arm_row entry
right_sound e s ty k kk x d = (λ n q. q, refl, λ calls p places f a l. refl)

pub signed_right_sound : SoundInWords Arm (two generic.Rsh (generic.Arm arm.Asr) 32 32)
unfolding SoundInWords opened formula arm_formula row arm_row entry
signed_right_sound e s ty k kk x d = (λ n q. q, refl, λ calls p places f a l. refl)
