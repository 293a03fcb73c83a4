-- Families of comparisons are sound.
use Rattle.std.proofs.Common.{not, nat_lt, nat_le, ◌==◌}
use Rattle.bk_ops.specs.declared.types.Target.TheVariants.{Arm}
use Rattle.bk_ops.specs.declared.family.Family.TheVariants as generic
use Rattle.bk_ops.specs.Arithmetic.{as_bit, less}
use Rattle.bk_ops.specs.Formulas.{formula}
use Rattle.bk_rule.specs.Sound.{SoundRule}
use Rattle.bk_rule.proofs.Opened.{opened}
use Rattle.bk_rules_dec64.specs.Families.{test, order}
use Rattle.bk_rules_dec64.proofs.Halves.{of_halves}
use Rattle.bk_rules_dec64.proofs.Orders.{unlike, either, equal_law, unequal_law, less_law, less_unsigned_law, at_most_law, at_most_unsigned_law}

pub equal_sound : SoundRule Arm (test generic.Eq)
unfolding SoundRule opened formula
equal_sound e v (_, _, (x, lx, _, ex, (y, ly, _, ey, (_, _, ev)))) d i =
    of_halves (λ h l k m. as_bit (unlike h l k m == 0)) (λ x y. as_bit (x == y)) equal_law (e.value 0) (e.value 1) x y v ex ey lx ly ev

pub unequal_sound : SoundRule Arm (test generic.Neq)
unfolding SoundRule opened formula
unequal_sound e v (_, _, (x, lx, _, ex, (y, ly, _, ey, (_, _, ev)))) d i =
    of_halves (λ h l k m. as_bit (not (unlike h l k m == 0))) (λ x y. as_bit (not (x == y))) unequal_law (e.value 0) (e.value 1) x y v ex ey lx ly ev

pub less_sound : SoundRule Arm (order generic.Less generic.Less generic.LessU)
unfolding SoundRule opened formula
less_sound e v (_, _, (x, lx, _, ex, (y, ly, _, ey, (_, _, ev)))) d i =
    of_halves (λ h l k m. either (less 32 h k) (h == k) (nat_lt l m)) (λ x y. as_bit (less 64 x y)) less_law (e.value 0) (e.value 1) x y v ex ey lx ly ev

pub less_unsigned_sound : SoundRule Arm (order generic.LessU generic.LessU generic.LessU)
unfolding SoundRule opened formula
less_unsigned_sound e v (_, _, (x, lx, _, ex, (y, ly, _, ey, (_, _, ev)))) d i =
    of_halves (λ h l k m. either (nat_lt h k) (h == k) (nat_lt l m)) (λ x y. as_bit (nat_lt x y)) less_unsigned_law (e.value 0) (e.value 1) x y v ex ey lx ly ev

pub at_most_sound : SoundRule Arm (order generic.Leq generic.Less generic.LeqU)
unfolding SoundRule opened formula
at_most_sound e v (_, _, (x, lx, _, ex, (y, ly, _, ey, (_, _, ev)))) d i =
    of_halves (λ h l k m. either (less 32 h k) (h == k) (nat_le l m)) (λ x y. as_bit (not (less 64 y x))) at_most_law (e.value 0) (e.value 1) x y v ex ey lx ly ev

pub at_most_unsigned_sound : SoundRule Arm (order generic.LeqU generic.LessU generic.LeqU)
unfolding SoundRule opened formula
at_most_unsigned_sound e v (_, _, (x, lx, _, ex, (y, ly, _, ey, (_, _, ev)))) d i =
    of_halves (λ h l k m. either (nat_lt h k) (h == k) (nat_le l m)) (λ x y. as_bit (nat_le x y)) at_most_unsigned_law (e.value 0) (e.value 1) x y v ex ey lx ly ev
