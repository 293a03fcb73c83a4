-- Each rule of the list is sound.
use Rattle.std.proofs.Common.{ℕ, ◌≤◌, arith, List, [], ◌∷◌, ◌++◌, pos, negsuc}
use Rattle.std.specs.List.{All, flat_map}
use Rattle.std.proofs.lemmas.List.Elements.{All-append, All-cons, All-nil}
use Rattle.bk_ops.specs.declared.types.Target.{Target}
use Rattle.bk_ops.specs.declared.family.Family.TheVariants.{Add, And, AndB, Com, Eq, Leq, LeqU, Less, LessU, Lsh, Mul, Neg, Neq, Not, Or, OrB, Rsh, RshU, SignExt, Sub, Xor, ZeroExt}
use Rattle.bk_rule.specs.declared.trees.Fun.TheVariants as fun
use Rattle.bk_rule.specs.declared.trees.Rule.{Rule}
use Rattle.bk_rule.specs.Sound.{SoundRule}
use Rattle.bk_rules_generic.specs.declared.lines.Shape.{Shape}
use Rattle.bk_rules_generic.specs.declared.lines.Shape.TheVariants.{Absorb, AddNeg, AddOffset, AddTwice, Cancel, Compare, CompareSame, DivOne, DivPower, Fold, FoldOne, FullMask, ModPower, MulPower, NoOffset, NotCompare, NotConst, NotOrder, OffsetTwice, Same, SelectFirst, SelectSecond, ShiftNone, SignConst, SignMask, SubConst, TruncConst, TruncExt, TruthAbsorb, TruthUnit, Turn, Twice, Unit as Unit', ZeroConst, ZeroMask}
use Rattle.bk_rules_generic.specs.Lines.{family, pairs, rules_of, one, each, words, shifts, to64, to32, arithmetic, bits, comparisons, conversions, generic_list}
use Rattle.bk_rules_generic.proofs.SoundArithmetic.{fold_add, fold_sub, fold_mul, fold_and, fold_or, fold_xor, fold_neg, fold_com, unit_add, unit_mul, unit_and, unit_or, unit_xor, absorb_mul, absorb_and, absorb_or, cancel_sub, cancel_xor, same_and, same_or, twice_neg, twice_com, turn_mul, turn_xor, sub_const_sound, add_twice_sound, add_neg_sound, mul_power_sound, div_one_sound, div_power_sound, mod_power_sound}
use Rattle.bk_rules_generic.proofs.SoundComparisons.{compare_eq, compare_neq, compare_less, compare_leq, compare_less_unsigned, compare_leq_unsigned, same_eq, same_leq, same_leq_unsigned, same_neq, same_less, same_less_unsigned, not_const_sound, twice_not, not_eq, not_neq, not_less, not_leq, not_less_unsigned, not_leq_unsigned, absorb_false, unit_true, absorb_true, unit_false, same_both, same_either}
use Rattle.bk_rules_generic.proofs.SoundConversions.{no_left, no_signed, no_right, sign_const_sound, zero_const_8, zero_const_16, zero_const_32, trunc_const_sound, trunc_sign, trunc_zero, zero_mask_sound, full_mask_sound, sign_mask_sound, no_offset_sound, offset_twice_sound, add_offset_sound, select_first_sound, select_second_sound}

-- ---- the rules of one line, and the rest of a list
pub record AllSound (t : Target) (rs : List Rule) : Type 0 where
  pub all : All (SoundRule t) rs

with_first : (t : Target) (r : Rule) (rest : List Rule) → SoundRule t r → AllSound t rest → AllSound t (r ∷ rest)
with_first t r rest s a = record { all = All-cons (SoundRule t) r rest s a.all }

none : (t : Target) → AllSound t []
none t = record { all = All-nil (SoundRule t) }

both : (t : Target) (rs rest : List Rule) → AllSound t rs → AllSound t rest → AllSound t (rs ++ rest)
both t rs rest a b = record { all = All-append (SoundRule t) rs rest a.all b.all }

of_one : (t : Target) (s : Shape) (rest : List Rule) → SoundRule t (family s 0 0) → AllSound t rest → AllSound t (rules_of (one s) ++ rest)
unfolding rules_of pairs
of_one t s rest a b = with_first t (family s 0 0) rest a b

of_each : (t : Target) (s : Shape) (rest : List Rule) → ((w : ℕ) → 1 ≤ w → w ≤ 64 → SoundRule t (family s w 0)) → AllSound t rest → AllSound t (rules_of (each s) ++ rest)
unfolding rules_of pairs
of_each t s rest a b =
    with_first t (family s 64 0) _ (a 64 (omega arith) (omega arith))
    (with_first t (family s 32 0) _ (a 32 (omega arith) (omega arith))
    (with_first t (family s 16 0) _ (a 16 (omega arith) (omega arith))
    (with_first t (family s 8 0) _ (a 8 (omega arith) (omega arith)) b)))

of_words : (t : Target) (s : Shape) (rest : List Rule) → ((w : ℕ) → SoundRule t (family s w 0)) → AllSound t rest → AllSound t (rules_of (words s) ++ rest)
unfolding rules_of pairs
of_words t s rest a b = with_first t (family s 64 0) _ (a 64) (with_first t (family s 32 0) _ (a 32) b)

of_counts : (t : Target) (s : Shape) (u : ℕ) (rest : List Rule) → ((w u : ℕ) → 1 ≤ w → w ≤ 64 → SoundRule t (family s w u)) → AllSound t rest →
    AllSound t (family s 64 u ∷ family s 32 u ∷ family s 16 u ∷ family s 8 u ∷ rest)
of_counts t s u rest a b =
    with_first t (family s 64 u) _ (a 64 u (omega arith) (omega arith))
    (with_first t (family s 32 u) _ (a 32 u (omega arith) (omega arith))
    (with_first t (family s 16 u) _ (a 16 u (omega arith) (omega arith))
    (with_first t (family s 8 u) _ (a 8 u (omega arith) (omega arith)) b)))

of_shifts : (t : Target) (s : Shape) (rest : List Rule) → ((w u : ℕ) → 1 ≤ w → w ≤ 64 → SoundRule t (family s w u)) → AllSound t rest →
    AllSound t (rules_of (shifts s) ++ rest)
unfolding rules_of pairs
of_shifts t s rest a b = of_counts t s 64 _ a (of_counts t s 32 _ a (of_counts t s 16 _ a (of_counts t s 8 _ a b)))

to_64 : (t : Target) (s : Shape) (rest : List Rule) → SoundRule t (family s 32 64) → SoundRule t (family s 16 64) → SoundRule t (family s 8 64) → AllSound t rest →
    AllSound t (rules_of (to64 s) ++ rest)
unfolding rules_of pairs
to_64 t s rest a b c d = with_first t (family s 32 64) _ a (with_first t (family s 16 64) _ b (with_first t (family s 8 64) _ c d))

to_32 : (t : Target) (s : Shape) (rest : List Rule) → SoundRule t (family s 16 32) → SoundRule t (family s 8 32) → AllSound t rest → AllSound t (rules_of (to32 s) ++ rest)
unfolding rules_of pairs
to_32 t s rest a b c = with_first t (family s 16 32) _ a (with_first t (family s 8 32) _ b c)

of_to64 : (t : Target) (s : Shape) (rest : List Rule) → ((w u : ℕ) → 1 ≤ w → w ≤ u → SoundRule t (family s w u)) → AllSound t rest → AllSound t (rules_of (to64 s) ++ rest)
of_to64 t s rest a b = to_64 t s rest (a 32 64 (omega arith) (omega arith)) (a 16 64 (omega arith) (omega arith)) (a 8 64 (omega arith) (omega arith)) b

of_to32 : (t : Target) (s : Shape) (rest : List Rule) → ((w u : ℕ) → 1 ≤ w → w ≤ u → SoundRule t (family s w u)) → AllSound t rest → AllSound t (rules_of (to32 s) ++ rest)
of_to32 t s rest a b = to_32 t s rest (a 16 32 (omega arith) (omega arith)) (a 8 32 (omega arith) (omega arith)) b

-- ---- the list
pub arithmetic_sound : (t : Target) → AllSound t (flat_map rules_of arithmetic)
unfolding family arithmetic
arithmetic_sound t =
    of_each t (Fold Add fun.Add) _ (fold_add t)
    (of_each t (Fold Sub fun.Sub) _ (fold_sub t)
    (of_each t (Fold Mul fun.Mul) _ (fold_mul t)
    (of_each t (Fold And fun.And) _ (fold_and t)
    (of_each t (Fold Or fun.Or) _ (fold_or t)
    (of_each t (Fold Xor fun.Xor) _ (fold_xor t)
    (of_each t (FoldOne Neg fun.Neg) _ (fold_neg t)
    (of_each t (FoldOne Com fun.Com) _ (fold_com t)
    (of_each t (Unit' Add (pos 0)) _ (unit_add t)
    (of_each t (Cancel Sub) _ (cancel_sub t)
    (of_each t SubConst _ (sub_const_sound t)
    (of_each t AddTwice _ (add_twice_sound t)
    (of_each t AddNeg _ (add_neg_sound t)
    (of_each t (Absorb Mul (pos 0)) _ (absorb_mul t)
    (of_each t (Unit' Mul (pos 1)) _ (unit_mul t)
    (of_each t (Turn Mul Neg) _ (turn_mul t)
    (of_each t MulPower _ (mul_power_sound t)
    (of_each t DivOne _ (div_one_sound t)
    (of_each t DivPower _ (div_power_sound t)
    (of_each t ModPower _ (mod_power_sound t)
    (none t))))))))))))))))))))

pub bits_sound : (t : Target) → AllSound t (flat_map rules_of bits)
unfolding family bits
bits_sound t =
    of_each t (Same And) _ (same_and t)
    (of_each t (Same Or) _ (same_or t)
    (of_each t (Absorb And (pos 0)) _ (absorb_and t)
    (of_each t (Unit' And (negsuc 0)) _ (unit_and t)
    (of_each t (Unit' Or (pos 0)) _ (unit_or t)
    (of_each t (Absorb Or (negsuc 0)) _ (absorb_or t)
    (of_each t (Cancel Xor) _ (cancel_xor t)
    (of_each t (Unit' Xor (pos 0)) _ (unit_xor t)
    (of_each t (Turn Xor Com) _ (turn_xor t)
    (of_each t (Twice Neg) _ (twice_neg t)
    (of_each t (Twice Com) _ (twice_com t)
    (none t)))))))))))

pub comparisons_sound : (t : Target) → AllSound t (flat_map rules_of comparisons)
unfolding family comparisons
comparisons_sound t =
    of_each t (Compare Eq fun.Eq) _ (compare_eq t)
    (of_each t (Compare Neq fun.Ne) _ (compare_neq t)
    (of_each t (Compare Less fun.Lt) _ (compare_less t)
    (of_each t (Compare Leq fun.Le) _ (compare_leq t)
    (of_each t (Compare LessU fun.Ult) _ (compare_less_unsigned t)
    (of_each t (Compare LeqU fun.Ule) _ (compare_leq_unsigned t)
    (of_each t (CompareSame Eq (pos 1)) _ (same_eq t)
    (of_each t (CompareSame Leq (pos 1)) _ (same_leq t)
    (of_each t (CompareSame LeqU (pos 1)) _ (same_leq_unsigned t)
    (of_each t (CompareSame Neq (pos 0)) _ (same_neq t)
    (of_each t (CompareSame Less (pos 0)) _ (same_less t)
    (of_each t (CompareSame LessU (pos 0)) _ (same_less_unsigned t)
    (of_one t NotConst _ (not_const_sound t)
    (of_one t (Twice Not) _ (twice_not t)
    (of_each t (NotCompare Eq Neq) _ (not_eq t)
    (of_each t (NotCompare Neq Eq) _ (not_neq t)
    (of_each t (NotOrder Less Leq) _ (not_less t)
    (of_each t (NotOrder Leq Less) _ (not_leq t)
    (of_each t (NotOrder LessU LeqU) _ (not_less_unsigned t)
    (of_each t (NotOrder LeqU LessU) _ (not_leq_unsigned t)
    (of_one t (TruthAbsorb AndB (pos 0)) _ (absorb_false t)
    (of_one t (TruthUnit AndB (pos 1)) _ (unit_true t)
    (of_one t (TruthAbsorb OrB (pos 1)) _ (absorb_true t)
    (of_one t (TruthUnit OrB (pos 0)) _ (unit_false t)
    (of_one t (Same AndB) _ (same_both t)
    (of_one t (Same OrB) _ (same_either t)
    (none t))))))))))))))))))))))))))

pub conversions_sound : (t : Target) → AllSound t (flat_map rules_of conversions)
unfolding family conversions
conversions_sound t =
    of_shifts t (ShiftNone Lsh) _ (no_left t)
    (of_shifts t (ShiftNone Rsh) _ (no_signed t)
    (of_shifts t (ShiftNone RshU) _ (no_right t)
    (of_to64 t SignConst _ (sign_const_sound t)
    (of_to32 t SignConst _ (sign_const_sound t)
    (to_64 t ZeroConst _ (zero_const_32 t 64 (omega arith)) (zero_const_16 t 64 (omega arith)) (zero_const_8 t 64 (omega arith))
    (to_32 t ZeroConst _ (zero_const_16 t 32 (omega arith)) (zero_const_8 t 32 (omega arith))
    (of_to64 t TruncConst _ (trunc_const_sound t)
    (of_to32 t TruncConst _ (trunc_const_sound t)
    (of_to64 t (TruncExt SignExt) _ (trunc_sign t)
    (of_to64 t (TruncExt ZeroExt) _ (trunc_zero t)
    (of_to32 t (TruncExt SignExt) _ (trunc_sign t)
    (of_to32 t (TruncExt ZeroExt) _ (trunc_zero t)
    (of_one t ZeroMask _ (zero_mask_sound t)
    (of_one t FullMask _ (full_mask_sound t)
    (of_one t SignMask _ (sign_mask_sound t)
    (of_one t NoOffset _ (no_offset_sound t)
    (of_one t OffsetTwice _ (offset_twice_sound t)
    (of_words t AddOffset _ (add_offset_sound t)
    (of_one t SelectFirst _ (select_first_sound t)
    (of_one t SelectSecond _ (select_second_sound t)
    (none t)))))))))))))))))))))

pub generic_list_sound : (t : Target) → AllSound t generic_list
unfolding generic_list
generic_list_sound t =
    both t (flat_map rules_of arithmetic) _ (arithmetic_sound t)
    (both t (flat_map rules_of bits) _ (bits_sound t)
    (both t (flat_map rules_of comparisons) _ (comparisons_sound t) (conversions_sound t)))
