-- Families of comparisons and truth values are sound.
use Rattle.std.proofs.Common.{ℕ, ◌-◌, ◌≤◌, ap, sym, ◌∙◌, arith, pos, not, nat_lt, nat_le, ◌==◌, int_lt, int_le}
use Rattle.std.proofs.Math.Nat.{mod-eq_of_lt}
use Rattle.bk_num.specs.Word.{residue}
use Rattle.bk_ops.specs.declared.types.Target.{Target}
use Rattle.bk_ops.specs.declared.family.Family.TheVariants.{Eq, Neq, Less, LessU, Leq, LeqU, AndB, OrB, Not}
use Rattle.bk_ops.specs.Arithmetic.{as_bit, less}
use Rattle.bk_ops.specs.Formulas.{formula}
use Rattle.bk_ops.proofs.Order.{not_bit, not_not, not_lt, not_le}
use Rattle.bk_rule.specs.declared.trees.Fun.TheVariants as fun
use Rattle.bk_rule.specs.Expressions.{word}
use Rattle.bk_rule.specs.Sound.{SoundRule}
use Rattle.bk_rule.proofs.Opened.{opened}
use Rattle.bk_rules_generic.specs.Families.{twice, same, compare, compare_same, not_const, not_compare, not_order, truth_unit, truth_absorb}
use Rattle.bk_rules_generic.proofs.Laws.{sub_law}
use Rattle.bk_rules_generic.proofs.Numbers.{and_zero, and_ones, or_zero, or_ones, and_same, or_same}
use Rattle.bk_rules_generic.proofs.Orders.{bit_of, eq_kept, less_kept, le_kept, less_unsigned_kept, le_unsigned_kept, equal_same, unequal_same, at_least_same, below_same, at_least_unsigned_same, below_unsigned_same, not_const_law}

pub compare_eq : (t : Target) (w : ℕ) → 1 ≤ w → w ≤ 64 → SoundRule t (compare Eq fun.Eq w)
unfolding SoundRule opened formula
compare_eq t w l h e v (_, _, (x, lx, _, (_, _, (kx, ex)), (y, ly, _, (_, _, (ky, ey)), (_, _, ev)))) d i = bit_of (word (e.int 0) == word (e.int 1)) ∙ (ap as_bit (eq_kept w (e.int 0) (e.int 1) x y h kx ky ex ey) ∙ ev)

pub compare_neq : (t : Target) (w : ℕ) → 1 ≤ w → w ≤ 64 → SoundRule t (compare Neq fun.Ne w)
unfolding SoundRule opened formula
compare_neq t w l h e v (_, _, (x, lx, _, (_, _, (kx, ex)), (y, ly, _, (_, _, (ky, ey)), (_, _, ev)))) d i = bit_of (not (word (e.int 0) == word (e.int 1))) ∙ (ap (λ b. as_bit (not b)) (eq_kept w (e.int 0) (e.int 1) x y h kx ky ex ey) ∙ ev)

pub compare_less : (t : Target) (w : ℕ) → 1 ≤ w → w ≤ 64 → SoundRule t (compare Less fun.Lt w)
unfolding SoundRule opened formula
compare_less t w l h e v (_, _, (x, lx, _, (_, _, (kx, ex)), (y, ly, _, (_, _, (ky, ey)), (_, _, ev)))) d i = bit_of (int_lt (e.int 0) (e.int 1)) ∙ (ap as_bit (less_kept w (e.int 0) (e.int 1) x y kx ky ex ey) ∙ ev)

pub compare_leq : (t : Target) (w : ℕ) → 1 ≤ w → w ≤ 64 → SoundRule t (compare Leq fun.Le w)
unfolding SoundRule opened formula
compare_leq t w l h e v (_, _, (x, lx, _, (_, _, (kx, ex)), (y, ly, _, (_, _, (ky, ey)), (_, _, ev)))) d i = bit_of (int_le (e.int 0) (e.int 1)) ∙ (ap as_bit (le_kept w (e.int 0) (e.int 1) x y kx ky ex ey) ∙ ev)

pub compare_less_unsigned : (t : Target) (w : ℕ) → 1 ≤ w → w ≤ 64 → SoundRule t (compare LessU fun.Ult w)
unfolding SoundRule opened formula
compare_less_unsigned t w l h e v (_, _, (x, lx, _, (_, _, (kx, ex)), (y, ly, _, (_, _, (ky, ey)), (_, _, ev)))) d i = bit_of (nat_lt (word (e.int 0)) (word (e.int 1))) ∙ (ap as_bit (less_unsigned_kept w (e.int 0) (e.int 1) x y l h lx ly kx ky ex ey) ∙ ev)

pub compare_leq_unsigned : (t : Target) (w : ℕ) → 1 ≤ w → w ≤ 64 → SoundRule t (compare LeqU fun.Ule w)
unfolding SoundRule opened formula
compare_leq_unsigned t w l h e v (_, _, (x, lx, _, (_, _, (kx, ex)), (y, ly, _, (_, _, (ky, ey)), (_, _, ev)))) d i = bit_of (nat_le (word (e.int 0)) (word (e.int 1))) ∙ (ap as_bit (le_unsigned_kept w (e.int 0) (e.int 1) x y l h lx ly kx ky ex ey) ∙ ev)

pub same_eq : (t : Target) (w : ℕ) → 1 ≤ w → w ≤ 64 → SoundRule t (compare_same Eq (pos 1) w)
unfolding SoundRule opened formula
same_eq t w l h e v (_, _, (x, lx, _, ex, (y, ly, _, ey, (_, _, ev)))) d i = equal_same x y v (sym ex ∙ ey) ev

pub same_leq : (t : Target) (w : ℕ) → 1 ≤ w → w ≤ 64 → SoundRule t (compare_same Leq (pos 1) w)
unfolding SoundRule opened formula
same_leq t w l h e v (_, _, (x, lx, _, ex, (y, ly, _, ey, (_, _, ev)))) d i = at_least_same w x y v (sym ex ∙ ey) ev

pub same_leq_unsigned : (t : Target) (w : ℕ) → 1 ≤ w → w ≤ 64 → SoundRule t (compare_same LeqU (pos 1) w)
unfolding SoundRule opened formula
same_leq_unsigned t w l h e v (_, _, (x, lx, _, ex, (y, ly, _, ey, (_, _, ev)))) d i = at_least_unsigned_same x y v (sym ex ∙ ey) ev

pub same_neq : (t : Target) (w : ℕ) → 1 ≤ w → w ≤ 64 → SoundRule t (compare_same Neq (pos 0) w)
unfolding SoundRule opened formula
same_neq t w l h e v (_, _, (x, lx, _, ex, (y, ly, _, ey, (_, _, ev)))) d i = unequal_same x y v (sym ex ∙ ey) ev

pub same_less : (t : Target) (w : ℕ) → 1 ≤ w → w ≤ 64 → SoundRule t (compare_same Less (pos 0) w)
unfolding SoundRule opened formula
same_less t w l h e v (_, _, (x, lx, _, ex, (y, ly, _, ey, (_, _, ev)))) d i = below_same w x y v (sym ex ∙ ey) ev

pub same_less_unsigned : (t : Target) (w : ℕ) → 1 ≤ w → w ≤ 64 → SoundRule t (compare_same LessU (pos 0) w)
unfolding SoundRule opened formula
same_less_unsigned t w l h e v (_, _, (x, lx, _, ex, (y, ly, _, ey, (_, _, ev)))) d i = below_unsigned_same x y v (sym ex ∙ ey) ev

pub not_const_sound : (t : Target) → SoundRule t (not_const)
unfolding SoundRule opened formula
not_const_sound t e v (_, _, (x, lx, _, (_, _, (kx, ex)), (_, _, ev))) d i = sub_law 1 (pos 1) (e.int 0) (omega arith) ∙ not_const_law (residue 1 (e.int 0)) x v ex lx ev

pub twice_not : (t : Target) → SoundRule t (twice Not 0)
unfolding SoundRule opened formula
twice_not t e v (_, _, (y, ly, _, (_, _, (x, lx, _, ex, (_, _, ey))), (_, _, ev))) d i = ex ∙ omega arith

pub not_eq : (t : Target) (w : ℕ) → 1 ≤ w → w ≤ 64 → SoundRule t (not_compare Eq Neq w)
unfolding SoundRule opened formula
not_eq t w l h e v (_, _, (b, lb, _, (_, _, (x, lx, _, ex, (y, ly, _, ey, (_, _, eb)))), (_, _, ev))) d i =
    rw (ex, ey, mod-eq_of_lt lx, mod-eq_of_lt ly) (sym (not_bit (x == y)) ∙ (ap (λ n. 1 - n) eb ∙ ev))

pub not_neq : (t : Target) (w : ℕ) → 1 ≤ w → w ≤ 64 → SoundRule t (not_compare Neq Eq w)
unfolding SoundRule opened formula
not_neq t w l h e v (_, _, (b, lb, _, (_, _, (x, lx, _, ex, (y, ly, _, ey, (_, _, eb)))), (_, _, ev))) d i =
    rw (ex, ey, mod-eq_of_lt lx, mod-eq_of_lt ly) (ap as_bit (sym (not_not (x == y))) ∙ (sym (not_bit (not (x == y))) ∙ (ap (λ n. 1 - n) eb ∙ ev)))

pub not_less : (t : Target) (w : ℕ) → 1 ≤ w → w ≤ 64 → SoundRule t (not_order Less Leq w)
unfolding SoundRule opened formula
not_less t w l h e v (_, _, (b, lb, _, (_, _, (x, lx, _, ex, (y, ly, _, ey, (_, _, eb)))), (_, _, ev))) d i =
    rw (ex, ey, mod-eq_of_lt lx, mod-eq_of_lt ly) (sym (not_bit (less w x y)) ∙ (ap (λ n. 1 - n) eb ∙ ev))

pub not_leq : (t : Target) (w : ℕ) → 1 ≤ w → w ≤ 64 → SoundRule t (not_order Leq Less w)
unfolding SoundRule opened formula
not_leq t w l h e v (_, _, (b, lb, _, (_, _, (x, lx, _, ex, (y, ly, _, ey, (_, _, eb)))), (_, _, ev))) d i =
    rw (ex, ey, mod-eq_of_lt lx, mod-eq_of_lt ly) (ap as_bit (sym (not_not (less w y x))) ∙ (sym (not_bit (not (less w y x))) ∙ (ap (λ n. 1 - n) eb ∙ ev)))

pub not_less_unsigned : (t : Target) (w : ℕ) → 1 ≤ w → w ≤ 64 → SoundRule t (not_order LessU LeqU w)
unfolding SoundRule opened formula
not_less_unsigned t w l h e v (_, _, (b, lb, _, (_, _, (x, lx, _, ex, (y, ly, _, ey, (_, _, eb)))), (_, _, ev))) d i =
    rw (ex, ey, mod-eq_of_lt lx, mod-eq_of_lt ly) (ap as_bit (sym (not_lt x y)) ∙ (sym (not_bit (nat_lt x y)) ∙ (ap (λ n. 1 - n) eb ∙ ev)))

pub not_leq_unsigned : (t : Target) (w : ℕ) → 1 ≤ w → w ≤ 64 → SoundRule t (not_order LeqU LessU w)
unfolding SoundRule opened formula
not_leq_unsigned t w l h e v (_, _, (b, lb, _, (_, _, (x, lx, _, ex, (y, ly, _, ey, (_, _, eb)))), (_, _, ev))) d i =
    rw (ex, ey, mod-eq_of_lt lx, mod-eq_of_lt ly) (ap as_bit (sym (not_le x y)) ∙ (sym (not_bit (nat_le x y)) ∙ (ap (λ n. 1 - n) eb ∙ ev)))

pub absorb_false : (t : Target) → SoundRule t (truth_absorb AndB (pos 0))
unfolding SoundRule opened formula
absorb_false t e v (_, _, (x, lx, _, (_, _, (kx, ex)), (y, ly, _, _, (_, _, ev)))) d i = sym (and_zero x y v (sym ex) ev)

pub unit_true : (t : Target) → SoundRule t (truth_unit AndB (pos 1))
unfolding SoundRule opened formula
unit_true t e v (_, _, (x, lx, _, (_, _, (kx, ex)), (y, ly, _, ey, (_, _, ev)))) d i = ey ∙ and_ones 1 x y v (sym ex) ly ev

pub absorb_true : (t : Target) → SoundRule t (truth_absorb OrB (pos 1))
unfolding SoundRule opened formula
absorb_true t e v (_, _, (x, lx, _, (_, _, (kx, ex)), (y, ly, _, _, (_, _, ev)))) d i = ex ∙ or_ones 1 x y v (sym ex) ly ev

pub unit_false : (t : Target) → SoundRule t (truth_unit OrB (pos 0))
unfolding SoundRule opened formula
unit_false t e v (_, _, (x, lx, _, (_, _, (kx, ex)), (y, ly, _, ey, (_, _, ev)))) d i = ey ∙ or_zero x y v (sym ex) ev

pub same_both : (t : Target) → SoundRule t (same AndB 0)
unfolding SoundRule opened formula
same_both t e v (_, _, (x, lx, _, ex, (y, ly, _, ey, (_, _, ev)))) d i = ey ∙ and_same x y v (sym ex ∙ ey) ev

pub same_either : (t : Target) → SoundRule t (same OrB 0)
unfolding SoundRule opened formula
same_either t e v (_, _, (x, lx, _, ex, (y, ly, _, ey, (_, _, ev)))) d i = ey ∙ or_same x y v (sym ex ∙ ey) ev
