-- Each rule of the list is sound on arm.
use Rattle.std.proofs.Common.{ℕ, ◌≤◌, arith, List, [], ◌∷◌, ◌++◌}
use Rattle.std.specs.List.{All, flat_map}
use Rattle.std.proofs.lemmas.List.Elements.{All-append, All-cons, All-nil}
use Rattle.bk_ops.specs.declared.types.Target.TheVariants.{Arm}
use Rattle.bk_ops.specs.declared.family.Family.TheVariants as generic
use Rattle.bk_rule.specs.declared.trees.Rule.{Rule}
use Rattle.bk_rule.specs.Sound.{SoundRule}
use Rattle.bk_rules_dec64.specs.declared.lines.Shape.{Shape}
use Rattle.bk_rules_dec64.specs.declared.lines.Shape.TheVariants as shape
use Rattle.bk_rules_dec64.specs.declared.lines.Widths.TheVariants.{Alone, Any, Short}
use Rattle.bk_rules_dec64.specs.Lines.{family, widths_of, rules_of, line, arithmetic, comparisons, conversions, shifts, dec64_list}
use Rattle.bk_rules_dec64.proofs.SoundArithmetic.{high_of_pair_sound, low_of_pair_sound, constant_sound, add_sound, sub_sound, and_sound, or_sound, xor_sound, complement_sound, negate_sound, product_sound}
use Rattle.bk_rules_dec64.proofs.SoundComparisons.{equal_sound, unequal_sound, less_sound, less_unsigned_sound, at_most_sound, at_most_unsigned_sound}
use Rattle.bk_rules_dec64.proofs.SoundConversions.{sign_above_sound, zero_above_sound, extend_signed_sound, extend_sound, truncate_to_word_sound, truncate_sound, choose_sound}
use Rattle.bk_rules_dec64.proofs.SoundShifts.{long_left_sound, long_right_sound, long_signed_sound, short_left_sound, short_right_sound, short_signed_sound, left_sound, right_sound, right_signed_sound, rotate_sound}

-- ---- the rules of one line, and the rest of a list
pub record AllSound (rs : List Rule) : Type 0 where
  pub all : All (SoundRule Arm) rs

with_first : (r : Rule) (rest : List Rule) → SoundRule Arm r → AllSound rest → AllSound (r ∷ rest)
with_first r rest s a = record { all = All-cons (SoundRule Arm) r rest s a.all }

none : AllSound []
none = record { all = All-nil (SoundRule Arm) }

both : (rs rest : List Rule) → AllSound rs → AllSound rest → AllSound (rs ++ rest)
both rs rest a b = record { all = All-append (SoundRule Arm) rs rest a.all b.all }

of_one : (s : Shape) (rest : List Rule) → SoundRule Arm (family s 0) → AllSound rest → AllSound (rules_of (line Alone s) ++ rest)
unfolding rules_of widths_of
of_one s rest a b = with_first (family s 0) _ a b

of_any : (s : Shape) (rest : List Rule) → ((w : ℕ) → 1 ≤ w → w ≤ 64 → SoundRule Arm (family s w)) → AllSound rest → AllSound (rules_of (line Any s) ++ rest)
unfolding rules_of widths_of
of_any s rest a b =
    with_first (family s 64) _ (a 64 (omega arith) (omega arith))
    (with_first (family s 32) _ (a 32 (omega arith) (omega arith))
    (with_first (family s 16) _ (a 16 (omega arith) (omega arith))
    (with_first (family s 8) _ (a 8 (omega arith) (omega arith)) b)))

of_short : (s : Shape) (rest : List Rule) → ((w : ℕ) → 1 ≤ w → w ≤ 32 → SoundRule Arm (family s w)) → AllSound rest → AllSound (rules_of (line Short s) ++ rest)
unfolding rules_of widths_of
of_short s rest a b =
    with_first (family s 16) _ (a 16 (omega arith) (omega arith))
    (with_first (family s 8) _ (a 8 (omega arith) (omega arith)) b)

pub arithmetic_sound : AllSound (flat_map rules_of arithmetic)
unfolding family arithmetic
arithmetic_sound =
    of_one shape.HighOfPair _ high_of_pair_sound
    (of_one shape.LowOfPair _ low_of_pair_sound
    (of_one shape.Constant _ constant_sound
    (of_one (shape.Sum generic.Add generic.AddHi32) _ add_sound
    (of_one (shape.Sum generic.Sub generic.SubHi32) _ sub_sound
    (of_one (shape.Each generic.And) _ and_sound
    (of_one (shape.Each generic.Or) _ or_sound
    (of_one (shape.Each generic.Xor) _ xor_sound
    (of_one shape.Complement _ complement_sound
    (of_one shape.Negate _ negate_sound
    (of_one shape.Product _ product_sound none))))))))))

pub comparisons_sound : AllSound (flat_map rules_of comparisons)
unfolding family comparisons
comparisons_sound =
    of_one (shape.Test generic.Eq) _ equal_sound
    (of_one (shape.Test generic.Neq) _ unequal_sound
    (of_one (shape.Order generic.Less generic.Less generic.LessU) _ less_sound
    (of_one (shape.Order generic.LessU generic.LessU generic.LessU) _ less_unsigned_sound
    (of_one (shape.Order generic.Leq generic.Less generic.LeqU) _ at_most_sound
    (of_one (shape.Order generic.LeqU generic.LessU generic.LeqU) _ at_most_unsigned_sound none)))))

pub conversions_sound : AllSound (flat_map rules_of conversions)
unfolding family conversions
conversions_sound =
    of_one shape.SignAbove _ sign_above_sound
    (of_one shape.ZeroAbove _ zero_above_sound
    (of_short (shape.Extend generic.SignExt) _ (λ w l h. extend_signed_sound w l h)
    (of_short (shape.Extend generic.ZeroExt) _ (λ w l h. extend_sound w h)
    (of_one shape.TruncateToWord _ truncate_to_word_sound
    (of_short shape.Truncate _ (λ w l h. truncate_sound w h) none)))))

pub shifts_sound : AllSound (flat_map rules_of shifts)
unfolding family shifts
shifts_sound =
    of_any (shape.LongCount generic.Lsh) _ (λ w l h. long_left_sound w h)
    (of_any (shape.LongCount generic.Rsh) _ (λ w l h. long_signed_sound w l h)
    (of_any (shape.LongCount generic.RshU) _ (λ w l h. long_right_sound w h)
    (of_short (shape.ShortCount generic.Lsh) _ (λ w l h. short_left_sound w h)
    (of_short (shape.ShortCount generic.Rsh) _ (λ w l h. short_signed_sound w h)
    (of_short (shape.ShortCount generic.RshU) _ (λ w l h. short_right_sound w h)
    (of_one shape.Left _ left_sound
    (of_one shape.Right _ right_sound
    (of_one shape.RightSigned _ right_signed_sound
    (of_one shape.Rotate _ rotate_sound
    (of_one shape.Choose _ choose_sound none))))))))))

-- ---- the list
pub dec64_list_sound : AllSound dec64_list
unfolding dec64_list
dec64_list_sound = both (flat_map rules_of arithmetic) _ arithmetic_sound (both (flat_map rules_of comparisons) _ comparisons_sound (both (flat_map rules_of conversions) _ conversions_sound shifts_sound))
