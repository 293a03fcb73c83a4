-- Families of sums, products, quotients and bits are sound.
use Rattle.std.proofs.Common.{◌≡◌, ℕ, ◌+◌, ◌-◌, ◌/◌, ◌%◌, ◌^◌, ◌<◌, ◌≤◌, refl, ap, sym, ◌∙◌, ℤ, pos, negsuc}
use Rattle.std.proofs.lemmas.Nat.{pow_pos}
use Rattle.std.proofs.Math.Nat.{zero-mod, mod-eq_of_lt}
use Rattle.bk_num.specs.Word.{signed, residue}
use Rattle.bk_ops.specs.declared.types.Target.{Target}
use Rattle.bk_ops.specs.declared.family.Family.TheVariants.{Add, Sub, Mul, And, Or, Xor, Neg, Com}
use Rattle.bk_ops.specs.Formulas.{formula}
use Rattle.bk_rule.specs.declared.trees.Fun.TheVariants as fun
use Rattle.bk_rule.specs.Expressions.{word, wrap}
use Rattle.bk_rule.specs.Sound.{SoundRule}
use Rattle.bk_rule.proofs.Opened.{opened}
use Rattle.bk_rule.proofs.Powers.{power_of}
use Rattle.bk_rules_generic.specs.Families.{fold, fold_one, unit, absorb, cancel, same, twice, turn, sub_const, add_twice, add_neg, mul_power, div_one, div_power, mod_power}
use Rattle.bk_rules_generic.proofs.Laws.{add_law, sub_law, mul_law, and_law, or_law, xor_law, neg_law, com_law}
use Rattle.bk_rules_generic.proofs.Numbers.{zero_is, one_is, ones_is, add_zero, mul_one, and_ones, or_zero, xor_zero, mul_zero, and_zero, or_ones, mul_ones, xor_ones, sub_self, xor_same, and_same, or_same, neg_twice, complement_twice, sub_const_law, add_twice_law, add_neg_law, mul_power_law, div_one_law, div_power_law, mod_power_law, not_zero, spells}

pub fold_add : (t : Target) (w : ℕ) → 1 ≤ w → w ≤ 64 → SoundRule t (fold Add fun.Add w)
unfolding SoundRule opened formula
fold_add t w l h e v (_, _, (x, lx, _, (_, _, (kx, ex)), (y, ly, _, (_, _, (ky, ey)), (_, _, ev)))) d i = add_law w (e.int 0) (e.int 1) h ∙ rw (ex, ey) ev

pub fold_sub : (t : Target) (w : ℕ) → 1 ≤ w → w ≤ 64 → SoundRule t (fold Sub fun.Sub w)
unfolding SoundRule opened formula
fold_sub t w l h e v (_, _, (x, lx, _, (_, _, (kx, ex)), (y, ly, _, (_, _, (ky, ey)), (_, _, ev)))) d i = sub_law w (e.int 0) (e.int 1) h ∙ rw (ex, ey) ev

pub fold_mul : (t : Target) (w : ℕ) → 1 ≤ w → w ≤ 64 → SoundRule t (fold Mul fun.Mul w)
unfolding SoundRule opened formula
fold_mul t w l h e v (_, _, (x, lx, _, (_, _, (kx, ex)), (y, ly, _, (_, _, (ky, ey)), (_, _, ev)))) d i = mul_law w (e.int 0) (e.int 1) h ∙ rw (ex, ey) ev

pub fold_and : (t : Target) (w : ℕ) → 1 ≤ w → w ≤ 64 → SoundRule t (fold And fun.And w)
unfolding SoundRule opened formula
fold_and t w l h e v (_, _, (x, lx, _, (_, _, (kx, ex)), (y, ly, _, (_, _, (ky, ey)), (_, _, ev)))) d i = and_law w (e.int 0) (e.int 1) h ∙ rw (ex, ey) ev

pub fold_or : (t : Target) (w : ℕ) → 1 ≤ w → w ≤ 64 → SoundRule t (fold Or fun.Or w)
unfolding SoundRule opened formula
fold_or t w l h e v (_, _, (x, lx, _, (_, _, (kx, ex)), (y, ly, _, (_, _, (ky, ey)), (_, _, ev)))) d i = or_law w (e.int 0) (e.int 1) h ∙ rw (ex, ey) ev

pub fold_xor : (t : Target) (w : ℕ) → 1 ≤ w → w ≤ 64 → SoundRule t (fold Xor fun.Xor w)
unfolding SoundRule opened formula
fold_xor t w l h e v (_, _, (x, lx, _, (_, _, (kx, ex)), (y, ly, _, (_, _, (ky, ey)), (_, _, ev)))) d i = xor_law w (e.int 0) (e.int 1) h ∙ rw (ex, ey) ev

pub fold_neg : (t : Target) (w : ℕ) → 1 ≤ w → w ≤ 64 → SoundRule t (fold_one Neg fun.Neg w)
unfolding SoundRule opened formula
fold_neg t w l h e v (_, _, (x, lx, _, (_, _, (kx, ex)), (_, _, ev))) d i = neg_law w (e.int 0) h ∙ rw ex ev

pub fold_com : (t : Target) (w : ℕ) → 1 ≤ w → w ≤ 64 → SoundRule t (fold_one Com fun.Com w)
unfolding SoundRule opened formula
fold_com t w l h e v (_, _, (x, lx, _, (_, _, (kx, ex)), (_, _, ev))) d i = com_law w (e.int 0) h ∙ rw ex ev

pub unit_add : (t : Target) (w : ℕ) → 1 ≤ w → w ≤ 64 → SoundRule t (unit Add (pos 0) w)
unfolding SoundRule opened formula
unit_add t w l h e v (_, _, (x, lx, _, (_, _, (kx, ex)), (y, ly, _, ey, (_, _, ev)))) d i = ey ∙ add_zero w x y v (zero_is w x ex) ly ev

pub unit_mul : (t : Target) (w : ℕ) → 1 ≤ w → w ≤ 64 → SoundRule t (unit Mul (pos 1) w)
unfolding SoundRule opened formula
unit_mul t w l h e v (_, _, (x, lx, _, (_, _, (kx, ex)), (y, ly, _, ey, (_, _, ev)))) d i = ey ∙ mul_one w x y v (one_is w x l ex) ly ev

pub unit_and : (t : Target) (w : ℕ) → 1 ≤ w → w ≤ 64 → SoundRule t (unit And (negsuc 0) w)
unfolding SoundRule opened formula
unit_and t w l h e v (_, _, (x, lx, _, (_, _, (kx, ex)), (y, ly, _, ey, (_, _, ev)))) d i = ey ∙ and_ones w x y v (ones_is w x ex) ly ev

pub unit_or : (t : Target) (w : ℕ) → 1 ≤ w → w ≤ 64 → SoundRule t (unit Or (pos 0) w)
unfolding SoundRule opened formula
unit_or t w l h e v (_, _, (x, lx, _, (_, _, (kx, ex)), (y, ly, _, ey, (_, _, ev)))) d i = ey ∙ or_zero x y v (zero_is w x ex) ev

pub unit_xor : (t : Target) (w : ℕ) → 1 ≤ w → w ≤ 64 → SoundRule t (unit Xor (pos 0) w)
unfolding SoundRule opened formula
unit_xor t w l h e v (_, _, (x, lx, _, (_, _, (kx, ex)), (y, ly, _, ey, (_, _, ev)))) d i = ey ∙ xor_zero x y v (zero_is w x ex) ev

pub absorb_mul : (t : Target) (w : ℕ) → 1 ≤ w → w ≤ 64 → SoundRule t (absorb Mul (pos 0) w)
unfolding SoundRule opened formula
absorb_mul t w l h e v (_, _, (x, lx, _, (_, _, (kx, ex)), (y, ly, _, _, (_, _, ev)))) d i = mul_zero w x y v (zero_is w x ex) ev

pub absorb_and : (t : Target) (w : ℕ) → 1 ≤ w → w ≤ 64 → SoundRule t (absorb And (pos 0) w)
unfolding SoundRule opened formula
absorb_and t w l h e v (_, _, (x, lx, _, (_, _, (kx, ex)), (y, ly, _, _, (_, _, ev)))) d i = zero-mod (2 ^ w) ∙ sym (and_zero x y v (zero_is w x ex) ev)

pub absorb_or : (t : Target) (w : ℕ) → 1 ≤ w → w ≤ 64 → SoundRule t (absorb Or (negsuc 0) w)
unfolding SoundRule opened formula
absorb_or t w l h e v (_, _, (x, lx, _, (_, _, (kx, ex)), (y, ly, _, _, (_, _, ev)))) d i = ex ∙ or_ones w x y v (ones_is w x ex) ly ev

pub cancel_sub : (t : Target) (w : ℕ) → 1 ≤ w → w ≤ 64 → SoundRule t (cancel Sub w)
unfolding SoundRule opened formula
cancel_sub t w l h e v (_, _, (x, lx, _, ex, (y, ly, _, ey, (_, _, ev)))) d i = zero-mod (2 ^ w) ∙ sym (sub_self w x y v (sym ex ∙ ey) ly ev)

pub cancel_xor : (t : Target) (w : ℕ) → 1 ≤ w → w ≤ 64 → SoundRule t (cancel Xor w)
unfolding SoundRule opened formula
cancel_xor t w l h e v (_, _, (x, lx, _, ex, (y, ly, _, ey, (_, _, ev)))) d i = zero-mod (2 ^ w) ∙ sym (xor_same x y v (sym ex ∙ ey) ev)

pub same_and : (t : Target) (w : ℕ) → 1 ≤ w → w ≤ 64 → SoundRule t (same And w)
unfolding SoundRule opened formula
same_and t w l h e v (_, _, (x, lx, _, ex, (y, ly, _, ey, (_, _, ev)))) d i = ey ∙ and_same x y v (sym ex ∙ ey) ev

pub same_or : (t : Target) (w : ℕ) → 1 ≤ w → w ≤ 64 → SoundRule t (same Or w)
unfolding SoundRule opened formula
same_or t w l h e v (_, _, (x, lx, _, ex, (y, ly, _, ey, (_, _, ev)))) d i = ey ∙ or_same x y v (sym ex ∙ ey) ev

pub twice_neg : (t : Target) (w : ℕ) → 1 ≤ w → w ≤ 64 → SoundRule t (twice Neg w)
unfolding SoundRule opened formula
twice_neg t w l h e v (_, _, (y, ly, _, (_, _, (x, lx, _, ex, (_, _, ey))), (_, _, ev))) d i = ex ∙ neg_twice w x y v lx ey ev

pub twice_com : (t : Target) (w : ℕ) → 1 ≤ w → w ≤ 64 → SoundRule t (twice Com w)
unfolding SoundRule opened formula
twice_com t w l h e v (_, _, (y, ly, _, (_, _, (x, lx, _, ex, (_, _, ey))), (_, _, ev))) d i = ex ∙ complement_twice w x y v lx ey ev

pub turn_mul : (t : Target) (w : ℕ) → 1 ≤ w → w ≤ 64 → SoundRule t (turn Mul Neg w)
unfolding SoundRule opened formula
turn_mul t w l h e v (_, _, (x, lx, _, (_, _, (kx, ex)), (y, ly, _, ey, (_, _, ev)))) d i = rw ey (mul_ones w x y v (ones_is w x ex) ly ev)

pub turn_xor : (t : Target) (w : ℕ) → 1 ≤ w → w ≤ 64 → SoundRule t (turn Xor Com w)
unfolding SoundRule opened formula
turn_xor t w l h e v (_, _, (x, lx, _, (_, _, (kx, ex)), (y, ly, _, ey, (_, _, ev)))) d i = rw ey (xor_ones w x y v (ones_is w x ex) ly ev)

pub sub_const_sound : (t : Target) (w : ℕ) → 1 ≤ w → w ≤ 64 → SoundRule t (sub_const w)
unfolding SoundRule opened formula
sub_const_sound t w l h e v (_, _, (x, lx, _, ex, (y, ly, _, (_, _, (ky, ey)), (_, _, ev)))) d i =
    rw ex (sub_const_law w x y _ v (neg_law w (e.int 1) h ∙ ap (λ n. (2 ^ w - n) % 2 ^ w) ey) ev)

pub add_twice_sound : (t : Target) (w : ℕ) → 1 ≤ w → w ≤ 64 → SoundRule t (add_twice w)
unfolding SoundRule opened formula
add_twice_sound t w l h e v (_, _, (a, la, _, (_, _, (ka, ea)), (y, ly, _, (_, _, (b, lb, _, (_, _, (kb, eb)), (z, lz, _, ez, (_, _, ey)))), (_, _, ev)))) d i =
    rw ez (add_twice_law w a b z y _ v (add_law w (e.int 0) (e.int 1) h ∙ rw (ea, eb) refl) ey ev)

pub add_neg_sound : (t : Target) (w : ℕ) → 1 ≤ w → w ≤ 64 → SoundRule t (add_neg w)
unfolding SoundRule opened formula
add_neg_sound t w l h e v (_, _, (x, lx, _, ex, (y, ly, _, (_, _, (z, lz, _, ez, (_, _, ey))), (_, _, ev)))) d i = rw (ex, ez) (add_neg_law w x z y v lx lz ey ev)

pub mul_power_sound : (t : Target) (w : ℕ) → 1 ≤ w → w ≤ 64 → SoundRule t (mul_power w)
unfolding SoundRule opened formula
mul_power_sound t w l h e v (_, _, (x, lx, _, (_, _, (kx, ex)), (y, ly, _, ey, (_, _, ev)))) d i =
    let (j, p, q, r) = power_of (e.int 0) d in
    rw (p, ey) (mul_power_law w j y v q ly (rw (← ex, r) at ev))

pub div_one_sound : (t : Target) (w : ℕ) → 1 ≤ w → w ≤ 64 → SoundRule t (div_one w)
unfolding SoundRule opened formula
div_one_sound t w l h e v (_, _, (x, lx, _, ex, (y, ly, _, (_, _, (ky, ey)), (_, _, ev)))) d i = ex ∙ div_one_law w x y _ v l lx ly (ap (signed w) (sym ey) ∙ ky) ev

-- the number of a constant that is a power of two
power_is : (w j y : ℕ) (c : ℤ) → c ≡ pos (2 ^ j) → signed w (residue w c) ≡ c → residue w c ≡ y → y < 2 ^ w → y ≡ 2 ^ j
power_is w j y c r k q m = sym (mod-eq_of_lt m) ∙ spells w y (2 ^ j) (ap (signed w) (sym q) ∙ (k ∙ r))

pub div_power_sound : (t : Target) (w : ℕ) → 1 ≤ w → w ≤ 64 → SoundRule t (div_power w)
unfolding SoundRule opened formula
div_power_sound t w l h e v (_, _, (x, lx, _, ex, (y, ly, _, (_, _, (ky, ey)), (_, _, ev)))) d i =
    let (j, p, q, r) = power_of (e.int 1) d in
    let s : y ≡ 2 ^ j = power_is w j y (e.int 1) r ky ey ly in
    rw (p, ex) (div_power_law w j x v q lx (not_zero (2 ^ j) _ (x / 2 ^ j) v (pow_pos j) (rw s at ev)))

pub mod_power_sound : (t : Target) (w : ℕ) → 1 ≤ w → w ≤ 64 → SoundRule t (mod_power w)
unfolding SoundRule opened formula
mod_power_sound t w l h e v (_, _, (x, lx, _, ex, (y, ly, _, (_, _, (ky, ey)), (_, _, ev)))) d i =
    let (j, p, q, r) = power_of (e.int 1) d in
    let s : y ≡ 2 ^ j = power_is w j y (e.int 1) r ky ey ly in
    let a : residue w (wrap (word (e.int 1) + (2 ^ 64 - word (pos 1)))) ≡ (y + (2 ^ w - 1 % 2 ^ w)) % 2 ^ w =
    sub_law w (e.int 1) (pos 1) h ∙ ap (λ n. (n + (2 ^ w - 1 % 2 ^ w)) % 2 ^ w) ey in
    rw (ex, a, s) (mod_power_law w j x v l lx (rw s at ly) (not_zero (2 ^ j) x (x % 2 ^ j) v (pow_pos j) (rw s at ev)))
