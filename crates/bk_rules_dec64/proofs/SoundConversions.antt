-- Families of extensions, truncations and choices are sound.
use Rattle.std.proofs.Common.{ℕ, ◌≤◌, ◌∙◌}
use Rattle.bk_ops.specs.declared.types.Target.TheVariants.{Arm}
use Rattle.bk_ops.specs.declared.family.Family.TheVariants as generic
use Rattle.bk_ops.specs.Formulas.{formula}
use Rattle.bk_rule.specs.Sound.{SoundRule}
use Rattle.bk_rule.proofs.Opened.{opened}
use Rattle.bk_rules_dec64.specs.Families.{sign_above, zero_above, extend, truncate_to_word, truncate, choose}
use Rattle.bk_rules_dec64.proofs.Extended.{sign_above_law, zero_above_law, extend_signed_law, short_is, truncate_word_law, truncate_law, choose_law}

pub sign_above_sound : SoundRule Arm sign_above
unfolding SoundRule opened formula
sign_above_sound e v (_, _, (x, lx, _, ex, (_, _, ev))) d i = sign_above_law (e.value 0) x v ex lx ev

pub zero_above_sound : SoundRule Arm zero_above
unfolding SoundRule opened formula
zero_above_sound e v (_, _, (x, lx, _, ex, (_, _, ev))) d i = zero_above_law (e.value 0) x v ex lx ev

pub extend_signed_sound : (w : ℕ) → 1 ≤ w → w ≤ 32 → SoundRule Arm (extend generic.SignExt w)
unfolding SoundRule opened formula
extend_signed_sound w l h e v (_, _, (x, lx, _, ex, (_, _, ev))) d i = extend_signed_law w (e.value 0) x v l h ex lx ev

pub extend_sound : (w : ℕ) → w ≤ 32 → SoundRule Arm (extend generic.ZeroExt w)
unfolding SoundRule opened formula
extend_sound w h e v (_, _, (x, lx, _, ex, (_, _, ev))) d i = short_is w (e.value 0) x h ex lx ∙ ev

pub truncate_to_word_sound : SoundRule Arm truncate_to_word
unfolding SoundRule opened formula
truncate_to_word_sound e v (_, _, (x, lx, _, ex, (_, _, ev))) d i = truncate_word_law (e.value 0) x v ex lx ev

pub truncate_sound : (w : ℕ) → w ≤ 32 → SoundRule Arm (truncate w)
unfolding SoundRule opened formula
truncate_sound w h e v (_, _, (x, lx, _, ex, (_, _, ev))) d i = truncate_law w (e.value 0) x v h ex lx ev

pub choose_sound : SoundRule Arm choose
unfolding SoundRule opened formula
choose_sound e v (_, _, (x, lx, _, ex, (y, ly, _, ey, (c, lc, _, ec, (_, _, ev))))) d i = choose_law (e.value 1) (e.value 2) (e.value 3) x y c v ex ey ec lx ly lc ev
