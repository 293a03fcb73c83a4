-- Each rule of the list is sound on arm.
use Rattle.std.proofs.Common.{ℕ, ◌≤◌, arith, List, ◌++◌}
use Rattle.std.specs.List.{flat_map}
use Rattle.bk_ops.specs.declared.types.Target.TheVariants.{Arm}
use Rattle.bk_rule.specs.declared.trees.Rule.{Rule}
use Rattle.bk_rules_words.specs.Sound.{SoundInWords}
use Rattle.bk_rules_words.specs.declared.lines.Shape.{Shape}
use Rattle.bk_rules_words.specs.declared.lines.Widths.TheVariants.{Small, NarrowBySmall, SmallBy32, At32By32, From8, From16, FallingTo32, UpTo4}
use Rattle.bk_rules_words.specs.Lines.{family, pairs, rules_of, line}
use Rattle.bk_rules_words.proofs.Whole.{AllSound, with_first, none, both, Sized, of_one, of_32, of_8, of_narrow}
use Rattle.bk_rules_arm.specs.Lines.{arithmetic, shifts, comparisons, conversions, accesses, immediates, arm_list}
use Rattle.bk_rules_arm.proofs.SoundArithmetic.{constant_sound, truth_sound, nil_sound, address_sound, add_sound, sub_sound, mul_sound, and_sound, or_sound, xor_sound, neg_sound, com_sound, add_address_sound, sub_address_sound, offset_sound, high_signed_sound, high_unsigned_sound, div_sound, div_unsigned_sound, mod_sound, mod_unsigned_sound, narrow_div, narrow_mod, narrow_div_unsigned, narrow_mod_unsigned}
use Rattle.bk_rules_arm.proofs.SoundShifts.{left_by_narrow, signed_by_narrow, right_by_narrow, narrow_left, narrow_right_signed, narrow_right, left_sound, right_sound, signed_right_sound}
use Rattle.bk_rules_arm.proofs.SoundComparisons.{narrow_equal, narrow_unequal, narrow_less, narrow_at_most, narrow_less_unsigned, narrow_at_most_unsigned, equal_sound, unequal_sound, less_sound, at_most_sound, less_unsigned_sound, at_most_unsigned_sound, equal_address_sound, unequal_address_sound, in_bounds_sound, in_slice_bounds_sound, not_nil_sound, both_sound, either_sound, unlike_sound, alike_sound, not_sound, truth_as_byte_sound}
use Rattle.bk_rules_arm.proofs.SoundConversions.{sign_of_8, sign_of_16, zeros_of_8, zeros_of_16, truncate_sound, sign_mask_sound, zero_mask_sound, trailing_zeros_sound, bit_length_sound, rotate_sound, select_sound, add_high_sound, sub_high_sound}
use Rattle.bk_rules_arm.proofs.SoundAccesses.{load_sound, store_bool_sound, store_sound, zero_sound, move_sound, nil_check_sound, panic_sound, load_near_sound, store_near_sound, store_bool_near_sound}
use Rattle.bk_rules_arm.proofs.SoundImmediates.{add_constant, sub_constant, and_constant, xor_constant, left_constant, right_constant, signed_constant}

-- ---- the rules of one line, and the rest of a list
of_small : (s : Shape) (rest : List Rule) → Sized Arm s → AllSound Arm rest → AllSound Arm (rules_of (line Small s) ++ rest)
unfolding rules_of pairs
of_small s rest a b =
    with_first Arm (family s 16 0) _ (a 16 0 (omega arith) (omega arith) (omega arith))
    (with_first Arm (family s 8 0) _ (a 8 0 (omega arith) (omega arith) (omega arith)) b)

of_narrow_by_small : (s : Shape) (rest : List Rule) → Sized Arm s → AllSound Arm rest → AllSound Arm (rules_of (line NarrowBySmall s) ++ rest)
unfolding rules_of pairs
of_narrow_by_small s rest a b =
    with_first Arm (family s 32 16) _ (a 32 16 (omega arith) (omega arith) (omega arith))
    (with_first Arm (family s 16 16) _ (a 16 16 (omega arith) (omega arith) (omega arith))
    (with_first Arm (family s 8 16) _ (a 8 16 (omega arith) (omega arith) (omega arith))
    (with_first Arm (family s 32 8) _ (a 32 8 (omega arith) (omega arith) (omega arith))
    (with_first Arm (family s 16 8) _ (a 16 8 (omega arith) (omega arith) (omega arith))
    (with_first Arm (family s 8 8) _ (a 8 8 (omega arith) (omega arith) (omega arith)) b)))))

of_small_by_32 : (s : Shape) (rest : List Rule) → ((w : ℕ) → 1 ≤ w → w ≤ 32 → SoundInWords Arm (family s w 32)) → AllSound Arm rest → AllSound Arm (rules_of (line SmallBy32 s) ++ rest)
unfolding rules_of pairs
of_small_by_32 s rest a b =
    with_first Arm (family s 16 32) _ (a 16 (omega arith) (omega arith))
    (with_first Arm (family s 8 32) _ (a 8 (omega arith) (omega arith)) b)

of_32_by_32 : (s : Shape) (rest : List Rule) → SoundInWords Arm (family s 32 32) → AllSound Arm rest → AllSound Arm (rules_of (line At32By32 s) ++ rest)
unfolding rules_of pairs
of_32_by_32 s rest a b = with_first Arm (family s 32 32) _ a b

of_8_and_up : (s : Shape) (rest : List Rule) → ((v : ℕ) → v ≤ 32 → SoundInWords Arm (family s 8 v)) → AllSound Arm rest → AllSound Arm (rules_of (line From8 s) ++ rest)
unfolding rules_of pairs
of_8_and_up s rest a b =
    with_first Arm (family s 8 16) _ (a 16 (omega arith))
    (with_first Arm (family s 8 32) _ (a 32 (omega arith)) b)

of_16_and_up : (s : Shape) (rest : List Rule) → ((v : ℕ) → v ≤ 32 → SoundInWords Arm (family s 16 v)) → AllSound Arm rest → AllSound Arm (rules_of (line From16 s) ++ rest)
unfolding rules_of pairs
of_16_and_up s rest a b = with_first Arm (family s 16 32) _ (a 32 (omega arith)) b

of_falling : (s : Shape) (rest : List Rule) → ((w v : ℕ) → v ≤ w → SoundInWords Arm (family s w v)) → AllSound Arm rest → AllSound Arm (rules_of (line FallingTo32 s) ++ rest)
unfolding rules_of pairs
of_falling s rest a b =
    with_first Arm (family s 16 8) _ (a 16 8 (omega arith))
    (with_first Arm (family s 32 8) _ (a 32 8 (omega arith))
    (with_first Arm (family s 32 16) _ (a 32 16 (omega arith)) b))

of_up_to_4 : (s : Shape) (rest : List Rule) → ((w : ℕ) → w ≤ 8 → SoundInWords Arm (family s w 0)) → AllSound Arm rest → AllSound Arm (rules_of (line UpTo4 s) ++ rest)
unfolding rules_of pairs
of_up_to_4 s rest a b =
    with_first Arm (family s 4 0) _ (a 4 (omega arith))
    (with_first Arm (family s 2 0) _ (a 2 (omega arith))
    (with_first Arm (family s 1 0) _ (a 1 (omega arith)) b))

pub arithmetic_sound : AllSound Arm (flat_map rules_of arithmetic)
unfolding family arithmetic
arithmetic_sound =
    of_narrow Arm _ _ (λ w v l h g. constant_sound w h)
    (of_one Arm _ _ truth_sound
    (of_one Arm _ _ nil_sound
    (of_one Arm _ _ address_sound
    (of_narrow Arm _ _ (λ w v l h g. add_sound w v h)
    (of_narrow Arm _ _ (λ w v l h g. sub_sound w v h)
    (of_narrow Arm _ _ (λ w v l h g. mul_sound w v h)
    (of_narrow Arm _ _ (λ w v l h g. and_sound w v h)
    (of_narrow Arm _ _ (λ w v l h g. or_sound w v h)
    (of_narrow Arm _ _ (λ w v l h g. xor_sound w v h)
    (of_narrow Arm _ _ (λ w v l h g. neg_sound w v h)
    (of_narrow Arm _ _ (λ w v l h g. com_sound w v h)
    (of_one Arm _ _ add_address_sound
    (of_one Arm _ _ sub_address_sound
    (of_one Arm _ _ offset_sound
    (of_32 Arm _ _ high_signed_sound
    (of_32 Arm _ _ high_unsigned_sound
    (of_32 Arm _ _ div_sound
    (of_32 Arm _ _ div_unsigned_sound
    (of_32 Arm _ _ mod_sound
    (of_32 Arm _ _ mod_unsigned_sound
    (of_small _ _ (λ w v l h g. narrow_div w l h)
    (of_small _ _ (λ w v l h g. narrow_mod w l h)
    (of_small _ _ (λ w v l h g. narrow_div_unsigned w h)
    (of_small _ _ (λ w v l h g. narrow_mod_unsigned w h) (none Arm)))))))))))))))))))))))))

pub shifts_sound : AllSound Arm (flat_map rules_of shifts)
unfolding family shifts
shifts_sound =
    of_narrow_by_small _ _ (λ w v l h g. left_by_narrow w v g)
    (of_narrow_by_small _ _ (λ w v l h g. signed_by_narrow w v g)
    (of_narrow_by_small _ _ (λ w v l h g. right_by_narrow w v g)
    (of_small_by_32 _ _ (λ w l h. narrow_left w h)
    (of_small_by_32 _ _ narrow_right_signed
    (of_small_by_32 _ _ (λ w l h. narrow_right w h)
    (of_32_by_32 _ _ left_sound
    (of_32_by_32 _ _ right_sound
    (of_32_by_32 _ _ signed_right_sound (none Arm)))))))))

pub comparisons_sound : AllSound Arm (flat_map rules_of comparisons)
unfolding family comparisons
comparisons_sound =
    of_small _ _ (λ w v l h g. narrow_equal w h)
    (of_small _ _ (λ w v l h g. narrow_unequal w h)
    (of_small _ _ (λ w v l h g. narrow_less w l h)
    (of_small _ _ (λ w v l h g. narrow_at_most w l h)
    (of_small _ _ (λ w v l h g. narrow_less_unsigned w h)
    (of_small _ _ (λ w v l h g. narrow_at_most_unsigned w h)
    (of_32 Arm _ _ equal_sound
    (of_32 Arm _ _ unequal_sound
    (of_32 Arm _ _ less_sound
    (of_32 Arm _ _ at_most_sound
    (of_32 Arm _ _ less_unsigned_sound
    (of_32 Arm _ _ at_most_unsigned_sound
    (of_one Arm _ _ equal_address_sound
    (of_one Arm _ _ unequal_address_sound
    (of_one Arm _ _ in_bounds_sound
    (of_one Arm _ _ in_slice_bounds_sound
    (of_one Arm _ _ not_nil_sound
    (of_one Arm _ _ both_sound
    (of_one Arm _ _ either_sound
    (of_one Arm _ _ unlike_sound
    (of_one Arm _ _ alike_sound
    (of_one Arm _ _ not_sound
    (of_8 Arm _ _ truth_as_byte_sound (none Arm)))))))))))))))))))))))

pub conversions_sound : AllSound Arm (flat_map rules_of conversions)
unfolding family conversions
conversions_sound =
    of_8_and_up _ _ sign_of_8
    (of_16_and_up _ _ sign_of_16
    (of_8_and_up _ _ zeros_of_8
    (of_16_and_up _ _ zeros_of_16
    (of_falling _ _ truncate_sound
    (of_one Arm _ _ sign_mask_sound
    (of_one Arm _ _ zero_mask_sound
    (of_32 Arm _ _ trailing_zeros_sound
    (of_32 Arm _ _ bit_length_sound
    (of_32 Arm _ _ rotate_sound
    (of_one Arm _ _ select_sound
    (of_32 Arm _ _ add_high_sound
    (of_32 Arm _ _ sub_high_sound (none Arm)))))))))))))

pub accesses_sound : AllSound Arm (flat_map rules_of accesses)
unfolding family accesses
accesses_sound =
    of_up_to_4 _ _ load_sound
    (of_one Arm _ _ store_bool_sound
    (of_up_to_4 _ _ store_sound
    (of_one Arm _ _ zero_sound
    (of_one Arm _ _ move_sound
    (of_one Arm _ _ nil_check_sound
    (of_one Arm _ _ panic_sound (none Arm)))))))

pub immediates_sound : AllSound Arm (flat_map rules_of immediates)
unfolding family immediates
immediates_sound =
    of_one Arm _ _ add_constant
    (of_one Arm _ _ sub_constant
    (of_one Arm _ _ and_constant
    (of_one Arm _ _ xor_constant
    (of_one Arm _ _ left_constant
    (of_one Arm _ _ right_constant
    (of_one Arm _ _ signed_constant
    (of_up_to_4 _ _ (λ w h. load_near_sound w)
    (of_up_to_4 _ _ (λ w h. store_near_sound w)
    (of_one Arm _ _ store_bool_near_sound (none Arm))))))))))

-- ---- the list
pub arm_list_sound : AllSound Arm arm_list
unfolding arm_list
arm_list_sound = both Arm (flat_map rules_of arithmetic) _ arithmetic_sound (both Arm (flat_map rules_of shifts) _ shifts_sound (both Arm (flat_map rules_of comparisons) _ comparisons_sound (both Arm (flat_map rules_of conversions) _ conversions_sound (both Arm (flat_map rules_of accesses) _ accesses_sound immediates_sound))))
