-- Families of extensions, masks, bits, rotations, choices and halves are sound.
use Rattle.std.proofs.Common.{◌≡◌, ℕ, ◌%◌, ◌^◌, ◌≤◌, refl, ap, sym, ◌∙◌, arith, pos, Bool, true, false, if◌then◌else◌, ◌==◌}
use Rattle.std.proofs.lemmas.Nat.{mod_below, pow_pos}
use Rattle.bk_num.specs.Word.{signed}
use Rattle.bk_num.proofs.Powers.{mod_mod}
use Rattle.bk_ops.specs.Types.{width_of}
use Rattle.bk_ops.specs.declared.types.Target.TheVariants.{Arm}
use Rattle.bk_ops.specs.declared.family.Family.TheVariants as generic
use Rattle.bk_ops.specs.declared.family.ArmOp.TheVariants as arm
use Rattle.bk_ops.specs.Formulas.{formula, arm_formula}
use Rattle.bk_ops.specs.Table.{row, arm_row, entry}
use Rattle.bk_rules_words.specs.Sound.{SoundInWords}
use Rattle.bk_rule.proofs.Opened.{opened}
use Rattle.bk_rules_words.specs.Families.{one, two, three, four, one_with, truncate}
use Rattle.bk_rules_words.proofs.LowBits.{low, low_constant, cut_twice}
use Rattle.bk_rules_words.proofs.Extended.{sign_alone}

pub sign_of_8 : (v : ℕ) → v ≤ 32 → SoundInWords Arm (one generic.SignExt (generic.Arm arm.Sxtb) 8 v)
unfolding SoundInWords opened formula arm_formula row arm_row entry
sign_of_8 v g e s ty k kk x d = (λ n q. low_constant v 32 (signed 8 (e.value 0 % 2 ^ 8)) n g q, refl, λ calls p places f a l. refl)

pub sign_of_16 : (v : ℕ) → v ≤ 32 → SoundInWords Arm (one generic.SignExt (generic.Arm arm.Sxth) 16 v)
unfolding SoundInWords opened formula arm_formula row arm_row entry
sign_of_16 v g e s ty k kk x d = (λ n q. low_constant v 32 (signed 16 (e.value 0 % 2 ^ 16)) n g q, refl, λ calls p places f a l. refl)

pub zeros_of_8 : (v : ℕ) → v ≤ 32 → SoundInWords Arm (one generic.ZeroExt (generic.Arm arm.Uxtb) 8 v)
unfolding SoundInWords opened formula arm_formula row arm_row entry
zeros_of_8 v g e s ty k kk x d = (λ n q. low v 32 n (e.value 0 % 2 ^ 8) g q, refl, λ calls p places f a l. refl)

pub zeros_of_16 : (v : ℕ) → v ≤ 32 → SoundInWords Arm (one generic.ZeroExt (generic.Arm arm.Uxth) 16 v)
unfolding SoundInWords opened formula arm_formula row arm_row entry
zeros_of_16 v g e s ty k kk x d = (λ n q. low v 32 n (e.value 0 % 2 ^ 16) g q, refl, λ calls p places f a l. refl)

pub truncate_sound : (w v : ℕ) → v ≤ w → SoundInWords Arm (truncate w v)
unfolding SoundInWords opened formula arm_formula row arm_row entry
truncate_sound w v h e s ty k kk x d = (cut_twice w v (e.value 0) h, refl, refl)

pub sign_mask_sound : SoundInWords Arm (one_with generic.Signmask (generic.Arm arm.Asri) (pos 31) 0)
unfolding SoundInWords opened formula arm_formula row arm_row entry
sign_mask_sound e s ty k kk x d = (λ n q. q ∙ ap (λ i. i % 2 ^ 32) (sign_alone 31 (e.value 0 % 2 ^ 32) (omega arith) (mod_below (e.value 0) (2 ^ 32) (pow_pos 32))), refl, λ calls p places f a l. refl)

-- ---- what is the same at 32 bits
pub zero_mask_sound : SoundInWords Arm (one generic.Zeromask (generic.Arm arm.Zmask) 0 0)
unfolding SoundInWords opened formula arm_formula row arm_row entry
zero_mask_sound e s ty k kk x d = (λ n q. q, refl, λ calls p places f a l. refl)

pub trailing_zeros_sound : SoundInWords Arm (one generic.Ctz32 (generic.Arm arm.Ctz) 32 0)
unfolding SoundInWords opened formula arm_formula row arm_row entry
trailing_zeros_sound e s ty k kk x d = (λ n q. q, refl, λ calls p places f a l. refl)

pub bit_length_sound : SoundInWords Arm (one generic.BitLen32 (generic.Arm arm.Blen) 32 0)
unfolding SoundInWords opened formula arm_formula row arm_row entry
bit_length_sound e s ty k kk x d = (λ n q. q, refl, λ calls p places f a l. refl)

pub rotate_sound : SoundInWords Arm (two generic.RotateLeft (generic.Arm arm.Rotl) 32 0)
unfolding SoundInWords opened formula arm_formula row arm_row entry
rotate_sound e s ty k kk x d = (λ n q. q, refl, λ calls p places f a l. refl)

pub add_high_sound : SoundInWords Arm (four generic.AddHi32 (generic.Arm arm.AddHi) 32)
unfolding SoundInWords opened formula arm_formula row arm_row entry
add_high_sound e s ty k kk x d = (λ n q. q, refl, λ calls p places f a l. refl)

pub sub_high_sound : SoundInWords Arm (four generic.SubHi32 (generic.Arm arm.SubHi) 32)
unfolding SoundInWords opened formula arm_formula row arm_row entry
sub_high_sound e s ty k kk x d = (λ n q. q, refl, λ calls p places f a l. refl)

-- ---- choices
-- the low bits of the one that is chosen
chosen : (w x y : ℕ) (t : Bool) → w ≤ 32 → (if t then y % 2 ^ 32 else x % 2 ^ 32) % 2 ^ w ≡ (if t then y % 2 ^ 64 else x % 2 ^ 64) % 2 ^ w
chosen w x y true h = mod_mod y w 32 h ∙ sym (mod_mod y w 64 (omega arith))
chosen w x y false h = mod_mod x w 32 h ∙ sym (mod_mod x w 64 (omega arith))

pub select_sound : SoundInWords Arm (three generic.CondSelect (generic.Arm arm.Sel))
unfolding SoundInWords opened formula arm_formula row arm_row entry
select_sound e s y k kk x d = (λ n q. low (width_of y Arm) 32 n _ d.1 q ∙ chosen (width_of y Arm) (e.value 0) (e.value 1) (e.value 2 % 2 == 0) d.1, refl, λ calls p places f a l. refl)
