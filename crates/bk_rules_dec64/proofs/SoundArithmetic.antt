-- Families of halves, constants, sums, products and bits are sound.
use Rattle.std.proofs.Common.{◌+◌, ◌-◌, ◌*◌, ◌%◌, ◌^◌, ◌∙◌, bit_and, bit_or, bit_xor}
use Rattle.bk_ops.specs.declared.types.Target.TheVariants.{Arm}
use Rattle.bk_ops.specs.declared.family.Family.TheVariants as generic
use Rattle.bk_ops.specs.Formulas.{formula}
use Rattle.bk_rule.specs.Sound.{SoundRule}
use Rattle.bk_rule.proofs.Opened.{opened}
use Rattle.bk_rules_dec64.specs.Families.{high_of_pair, low_of_pair, constant, sum, each, complement, negate, product}
use Rattle.bk_rules_dec64.proofs.Halves.{of_halves, first_half, second_half, constant_law, added, add_law, taken, sub_law, each_of, and_law, or_law, xor_law, complement_law, negate_law, multiplied, product_law}

pub high_of_pair_sound : SoundRule Arm high_of_pair
unfolding SoundRule opened formula
high_of_pair_sound e v (_, _, (p, lp, _, (_, _, (x, lx, _, ex, (y, ly, _, _, (_, _, ep)))), (_, _, ev))) d i = ex ∙ first_half x y p v ly ep ev

pub low_of_pair_sound : SoundRule Arm low_of_pair
unfolding SoundRule opened formula
low_of_pair_sound e v (_, _, (p, lp, _, (_, _, (x, lx, _, _, (y, ly, _, ey, (_, _, ep)))), (_, _, ev))) d i = ey ∙ second_half x y p v ly ep ev

pub constant_sound : SoundRule Arm constant
unfolding SoundRule opened formula
constant_sound e v (_, _, (kc, ev)) d i = constant_law (e.int 0) ∙ ev

pub add_sound : SoundRule Arm (sum generic.Add generic.AddHi32)
unfolding SoundRule opened formula
add_sound e v (_, _, (x, lx, _, ex, (y, ly, _, ey, (_, _, ev)))) d i = of_halves added (λ x y. (x + y) % 2 ^ 64) add_law (e.value 0) (e.value 1) x y v ex ey lx ly ev

pub sub_sound : SoundRule Arm (sum generic.Sub generic.SubHi32)
unfolding SoundRule opened formula
sub_sound e v (_, _, (x, lx, _, ex, (y, ly, _, ey, (_, _, ev)))) d i = of_halves taken (λ x y. (x + (2 ^ 64 - y)) % 2 ^ 64) sub_law (e.value 0) (e.value 1) x y v ex ey lx ly ev

pub and_sound : SoundRule Arm (each generic.And)
unfolding SoundRule opened formula
and_sound e v (_, _, (x, lx, _, ex, (y, ly, _, ey, (_, _, ev)))) d i = of_halves (each_of bit_and) (λ x y. bit_and x y) and_law (e.value 0) (e.value 1) x y v ex ey lx ly ev

pub or_sound : SoundRule Arm (each generic.Or)
unfolding SoundRule opened formula
or_sound e v (_, _, (x, lx, _, ex, (y, ly, _, ey, (_, _, ev)))) d i = of_halves (each_of bit_or) (λ x y. bit_or x y) or_law (e.value 0) (e.value 1) x y v ex ey lx ly ev

pub xor_sound : SoundRule Arm (each generic.Xor)
unfolding SoundRule opened formula
xor_sound e v (_, _, (x, lx, _, ex, (y, ly, _, ey, (_, _, ev)))) d i = of_halves (each_of bit_xor) (λ x y. bit_xor x y) xor_law (e.value 0) (e.value 1) x y v ex ey lx ly ev

pub complement_sound : SoundRule Arm complement
unfolding SoundRule opened formula
complement_sound e v (_, _, (x, lx, _, ex, (_, _, ev))) d i = complement_law (e.value 0) x v ex lx ev

pub negate_sound : SoundRule Arm negate
unfolding SoundRule opened formula
negate_sound e v (_, _, (x, lx, _, ex, (_, _, ev))) d i = negate_law (e.value 0) x v ex lx ev

pub product_sound : SoundRule Arm product
unfolding SoundRule opened formula
product_sound e v (_, _, (x, lx, _, ex, (y, ly, _, ey, (_, _, ev)))) d i = of_halves multiplied (λ x y. x * y % 2 ^ 64) product_law (e.value 0) (e.value 1) x y v ex ey lx ly ev
