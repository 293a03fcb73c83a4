-- Families of shifts, and the rotation, are sound.
use Rattle.std.proofs.Common.{ℕ, ◌*◌, ◌/◌, ◌%◌, ◌^◌, ◌≤◌}
use Rattle.bk_ops.specs.declared.types.Target.TheVariants.{Arm}
use Rattle.bk_ops.specs.declared.family.Family.TheVariants as generic
use Rattle.bk_ops.specs.Formulas.{formula}
use Rattle.bk_rule.specs.Sound.{SoundRule}
use Rattle.bk_rule.proofs.Opened.{opened}
use Rattle.bk_rules_dec64.specs.Families.{long_count, short_count, left, right, right_signed, rotate}
use Rattle.bk_rules_dec64.proofs.Extended.{short_is}
use Rattle.bk_rules_dec64.proofs.HalfShifts.{to_left, left_law, to_right, right_law}
use Rattle.bk_rules_dec64.proofs.Signed.{shifted, with_sign, signed_law}
use Rattle.bk_rules_dec64.proofs.Counts.{long_left, long_right, long_signed, at_both, cut_is, of_shift, rotate_law}

pub long_left_sound : (w : ℕ) → w ≤ 64 → SoundRule Arm (long_count generic.Lsh w)
unfolding SoundRule opened formula
long_left_sound w h e v (_, _, (x, lx, _, ex, (y, ly, _, ey, (_, _, ev)))) d i = long_left w (e.value 0) (e.value 1) x y v h ex ey lx ly ev

pub long_right_sound : (w : ℕ) → w ≤ 64 → SoundRule Arm (long_count generic.RshU w)
unfolding SoundRule opened formula
long_right_sound w h e v (_, _, (x, lx, _, ex, (y, ly, _, ey, (_, _, ev)))) d i = long_right w (e.value 0) (e.value 1) x y v h ex ey lx ly ev

pub long_signed_sound : (w : ℕ) → 1 ≤ w → w ≤ 64 → SoundRule Arm (long_count generic.Rsh w)
unfolding SoundRule opened formula
long_signed_sound w l h e v (_, _, (x, lx, _, ex, (y, ly, _, ey, (_, _, ev)))) d i = long_signed w (e.value 0) (e.value 1) x y v l h ex ey lx ly ev

pub short_left_sound : (w : ℕ) → w ≤ 32 → SoundRule Arm (short_count generic.Lsh w)
unfolding SoundRule opened formula
short_left_sound w h e v (_, _, (x, lx, _, ex, (y, ly, _, ey, (_, _, ev)))) d i =
    at_both (λ m n. m * 2 ^ n % 2 ^ 64) _ _ x y v (cut_is 64 (e.value 0) x ex lx) (short_is w (e.value 1) y h ey ly) ev

pub short_right_sound : (w : ℕ) → w ≤ 32 → SoundRule Arm (short_count generic.RshU w)
unfolding SoundRule opened formula
short_right_sound w h e v (_, _, (x, lx, _, ex, (y, ly, _, ey, (_, _, ev)))) d i =
    at_both (λ m n. m / 2 ^ n) _ _ x y v (cut_is 64 (e.value 0) x ex lx) (short_is w (e.value 1) y h ey ly) ev

pub short_signed_sound : (w : ℕ) → w ≤ 32 → SoundRule Arm (short_count generic.Rsh w)
unfolding SoundRule opened formula
short_signed_sound w h e v (_, _, (x, lx, _, ex, (y, ly, _, ey, (_, _, ev)))) d i =
    at_both (shifted 64) _ _ x y v (cut_is 64 (e.value 0) x ex lx) (short_is w (e.value 1) y h ey ly) ev

pub left_sound : SoundRule Arm left
unfolding SoundRule opened formula
left_sound e v (_, _, (x, lx, _, ex, (y, ly, _, ey, (_, _, ev)))) d i =
    of_shift to_left (λ x s. x * 2 ^ s % 2 ^ 64) (λ h l s a b c. left_law h l s b c) (e.value 0) (e.value 1) x y v ex ey lx ly ev

pub right_sound : SoundRule Arm right
unfolding SoundRule opened formula
right_sound e v (_, _, (x, lx, _, ex, (y, ly, _, ey, (_, _, ev)))) d i =
    of_shift to_right (λ x s. x / 2 ^ s) right_law (e.value 0) (e.value 1) x y v ex ey lx ly ev

pub right_signed_sound : SoundRule Arm right_signed
unfolding SoundRule opened formula
right_signed_sound e v (_, _, (x, lx, _, ex, (y, ly, _, ey, (_, _, ev)))) d i =
    of_shift with_sign (shifted 64) signed_law (e.value 0) (e.value 1) x y v ex ey lx ly ev

pub rotate_sound : SoundRule Arm rotate
unfolding SoundRule opened formula
rotate_sound e v (_, _, (x, lx, _, ex, (y, ly, _, ey, (_, _, ev)))) d i = rotate_law (e.value 0) (e.value 1) x y v ex ey lx ly ev
