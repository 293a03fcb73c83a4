-- Each rule of the list is sound on riscv64.
use Rattle.std.proofs.Common.{ℕ, ◌≤◌, arith, List, ◌∷◌, ◌++◌}
use Rattle.std.specs.List.{flat_map}
use Rattle.bk_ops.specs.declared.types.Target.TheVariants.{Riscv64}
use Rattle.bk_rule.specs.declared.trees.Rule.{Rule}
use Rattle.bk_rules_words.specs.Sound.{SoundInWords}
use Rattle.bk_rules_words.specs.declared.lines.Shape.{Shape}
use Rattle.bk_rules_words.specs.declared.lines.Widths.TheVariants.{Each, NarrowByEach, EachByNarrow, EachBy64, At64ByNarrow, At64By64, Rising, Falling, UpTo8}
use Rattle.bk_rules_words.specs.Lines.{family, pairs, rules_of, line}
use Rattle.bk_rules_words.proofs.Whole.{AllSound, with_first, none, both, Sized, of_one, of_64, of_8, of_narrow}
use Rattle.bk_rules_rv.specs.Lines.{arithmetic, shifts, comparisons, conversions, accesses, immediates, rv_list}
use Rattle.bk_rules_rv.proofs.SoundArithmetic.{constant_sound, truth_sound, nil_sound, address_sound, add_sound, sub_sound, mul_sound, and_sound, or_sound, xor_sound, neg_sound, com_sound, add_address_sound, sub_address_sound, high_signed_sound, high_unsigned_sound, div_sound, div_unsigned_sound, rem_sound, rem_unsigned_sound, offset_sound, narrow_div, narrow_mod, narrow_div_unsigned, narrow_mod_unsigned, half_signed_sound, half_unsigned_sound}
use Rattle.bk_rules_rv.proofs.SoundShifts.{narrow_right_signed, narrow_right, left_by_narrow, left_by_word, signed_by_narrow, signed_by_word, right_by_narrow, right_by_word}
use Rattle.bk_rules_rv.proofs.SoundComparisons.{equal_sound, narrow_equal, unequal_sound, narrow_unequal, equal_address, unequal_address, less_sound, less_unsigned_sound, in_bounds_sound, at_most_sound, at_most_unsigned_sound, in_slice_bounds_sound, narrow_less, narrow_at_most, narrow_less_unsigned, narrow_at_most_unsigned, not_nil_sound, both_sound, either_sound, unlike_sound, alike_sound, not_sound, truth_as_byte_sound}
use Rattle.bk_rules_rv.proofs.SoundConversions.{extend_signed_sound, extend_sound, truncate_sound, sign_mask_sound, zero_mask_sound, rotate_sound, rotate_half_sound, select_sound}
use Rattle.bk_rules_rv.proofs.SoundAccesses.{load_sound, store_bool_sound, store_sound, zero_sound, move_sound, nil_check_sound, panic_sound, load_near_sound, store_near_sound, store_bool_near_sound}
use Rattle.bk_rules_rv.proofs.SoundImmediates.{add_constant, and_constant, or_constant, xor_constant, left_constant, right_constant, signed_constant}

-- ---- the rules of one line, and the rest of a list
of_each : (s : Shape) (rest : List Rule) → Sized Riscv64 s → AllSound Riscv64 rest → AllSound Riscv64 (rules_of (line Each s) ++ rest)
unfolding rules_of pairs
of_each s rest a b =
    with_first Riscv64 (family s 64 0) _ (a 64 0 (omega arith) (omega arith) (omega arith))
    (with_first Riscv64 (family s 32 0) _ (a 32 0 (omega arith) (omega arith) (omega arith))
    (with_first Riscv64 (family s 16 0) _ (a 16 0 (omega arith) (omega arith) (omega arith))
    (with_first Riscv64 (family s 8 0) _ (a 8 0 (omega arith) (omega arith) (omega arith)) b)))

narrow_at : (s : Shape) (v : ℕ) (rest : List Rule) → Sized Riscv64 s → v ≤ 64 → AllSound Riscv64 rest → AllSound Riscv64 (family s 32 v ∷ family s 16 v ∷ family s 8 v ∷ rest)
narrow_at s v rest a g b = with_first Riscv64 (family s 32 v) _ (a 32 v (omega arith) (omega arith) g) (with_first Riscv64 (family s 16 v) _ (a 16 v (omega arith) (omega arith) g) (with_first Riscv64 (family s 8 v) _ (a 8 v (omega arith) (omega arith) g) b))

of_narrow_by_each : (s : Shape) (rest : List Rule) → Sized Riscv64 s → AllSound Riscv64 rest → AllSound Riscv64 (rules_of (line NarrowByEach s) ++ rest)
unfolding rules_of pairs
of_narrow_by_each s rest a b =
    narrow_at s 64 _ a (omega arith) (narrow_at s 32 _ a (omega arith) (narrow_at s 16 _ a (omega arith) (narrow_at s 8 _ a (omega arith) b)))

by_narrow : (s : Shape) (w : ℕ) (rest : List Rule) → Sized Riscv64 s → 1 ≤ w → w ≤ 64 → AllSound Riscv64 rest → AllSound Riscv64 (family s w 32 ∷ family s w 16 ∷ family s w 8 ∷ rest)
by_narrow s w rest a l h b = with_first Riscv64 (family s w 32) _ (a w 32 l h (omega arith)) (with_first Riscv64 (family s w 16) _ (a w 16 l h (omega arith)) (with_first Riscv64 (family s w 8) _ (a w 8 l h (omega arith)) b))

of_each_by_narrow : (s : Shape) (rest : List Rule) → Sized Riscv64 s → AllSound Riscv64 rest → AllSound Riscv64 (rules_of (line EachByNarrow s) ++ rest)
unfolding rules_of pairs
of_each_by_narrow s rest a b =
    by_narrow s 64 _ a (omega arith) (omega arith) (by_narrow s 32 _ a (omega arith) (omega arith) (by_narrow s 16 _ a (omega arith) (omega arith) (by_narrow s 8 _ a (omega arith) (omega arith) b)))

of_each_by_64 : (s : Shape) (rest : List Rule) → ((w : ℕ) → w ≤ 64 → SoundInWords Riscv64 (family s w 64)) → AllSound Riscv64 rest → AllSound Riscv64 (rules_of (line EachBy64 s) ++ rest)
unfolding rules_of pairs
of_each_by_64 s rest a b =
    with_first Riscv64 (family s 64 64) _ (a 64 (omega arith))
    (with_first Riscv64 (family s 32 64) _ (a 32 (omega arith))
    (with_first Riscv64 (family s 16 64) _ (a 16 (omega arith))
    (with_first Riscv64 (family s 8 64) _ (a 8 (omega arith)) b)))

of_64_by_narrow : (s : Shape) (rest : List Rule) → ((v : ℕ) → v ≤ 64 → SoundInWords Riscv64 (family s 64 v)) → AllSound Riscv64 rest → AllSound Riscv64 (rules_of (line At64ByNarrow s) ++ rest)
unfolding rules_of pairs
of_64_by_narrow s rest a b =
    with_first Riscv64 (family s 64 32) _ (a 32 (omega arith))
    (with_first Riscv64 (family s 64 16) _ (a 16 (omega arith))
    (with_first Riscv64 (family s 64 8) _ (a 8 (omega arith)) b))

of_64_by_64 : (s : Shape) (rest : List Rule) → SoundInWords Riscv64 (family s 64 64) → AllSound Riscv64 rest → AllSound Riscv64 (rules_of (line At64By64 s) ++ rest)
unfolding rules_of pairs
of_64_by_64 s rest a b = with_first Riscv64 (family s 64 64) _ a b

of_rising : (s : Shape) (rest : List Rule) → Sized Riscv64 s → AllSound Riscv64 rest → AllSound Riscv64 (rules_of (line Rising s) ++ rest)
unfolding rules_of pairs
of_rising s rest a b =
    with_first Riscv64 (family s 8 16) _ (a 8 16 (omega arith) (omega arith) (omega arith))
    (with_first Riscv64 (family s 8 32) _ (a 8 32 (omega arith) (omega arith) (omega arith))
    (with_first Riscv64 (family s 8 64) _ (a 8 64 (omega arith) (omega arith) (omega arith))
    (with_first Riscv64 (family s 16 32) _ (a 16 32 (omega arith) (omega arith) (omega arith))
    (with_first Riscv64 (family s 16 64) _ (a 16 64 (omega arith) (omega arith) (omega arith))
    (with_first Riscv64 (family s 32 64) _ (a 32 64 (omega arith) (omega arith) (omega arith)) b)))))

of_falling : (s : Shape) (rest : List Rule) → ((w v : ℕ) → v ≤ w → SoundInWords Riscv64 (family s w v)) → AllSound Riscv64 rest → AllSound Riscv64 (rules_of (line Falling s) ++ rest)
unfolding rules_of pairs
of_falling s rest a b =
    with_first Riscv64 (family s 16 8) _ (a 16 8 (omega arith))
    (with_first Riscv64 (family s 32 8) _ (a 32 8 (omega arith))
    (with_first Riscv64 (family s 32 16) _ (a 32 16 (omega arith))
    (with_first Riscv64 (family s 64 8) _ (a 64 8 (omega arith))
    (with_first Riscv64 (family s 64 16) _ (a 64 16 (omega arith))
    (with_first Riscv64 (family s 64 32) _ (a 64 32 (omega arith)) b)))))

of_up_to_8 : (s : Shape) (rest : List Rule) → ((w : ℕ) → w ≤ 8 → SoundInWords Riscv64 (family s w 0)) → AllSound Riscv64 rest → AllSound Riscv64 (rules_of (line UpTo8 s) ++ rest)
unfolding rules_of pairs
of_up_to_8 s rest a b =
    with_first Riscv64 (family s 8 0) _ (a 8 (omega arith))
    (with_first Riscv64 (family s 4 0) _ (a 4 (omega arith))
    (with_first Riscv64 (family s 2 0) _ (a 2 (omega arith))
    (with_first Riscv64 (family s 1 0) _ (a 1 (omega arith)) b)))

pub arithmetic_sound : AllSound Riscv64 (flat_map rules_of arithmetic)
unfolding family arithmetic
arithmetic_sound =
    of_each _ _ (λ w v l h g. constant_sound w h)
    (of_one Riscv64 _ _ truth_sound
    (of_one Riscv64 _ _ nil_sound
    (of_one Riscv64 _ _ address_sound
    (of_each _ _ (λ w v l h g. add_sound w v h)
    (of_each _ _ (λ w v l h g. sub_sound w v h)
    (of_each _ _ (λ w v l h g. mul_sound w v h)
    (of_each _ _ (λ w v l h g. and_sound w v h)
    (of_each _ _ (λ w v l h g. or_sound w v h)
    (of_each _ _ (λ w v l h g. xor_sound w v h)
    (of_each _ _ (λ w v l h g. neg_sound w v h)
    (of_each _ _ (λ w v l h g. com_sound w h)
    (of_one Riscv64 _ _ add_address_sound
    (of_one Riscv64 _ _ sub_address_sound
    (of_one Riscv64 _ _ offset_sound
    (of_64 Riscv64 _ _ high_signed_sound
    (of_64 Riscv64 _ _ high_unsigned_sound
    (of_64 Riscv64 _ _ div_sound
    (of_64 Riscv64 _ _ div_unsigned_sound
    (of_64 Riscv64 _ _ rem_sound
    (of_64 Riscv64 _ _ rem_unsigned_sound
    (of_one Riscv64 _ _ half_signed_sound
    (of_one Riscv64 _ _ half_unsigned_sound
    (of_narrow Riscv64 _ _ (λ w v l h g. narrow_div w l h)
    (of_narrow Riscv64 _ _ (λ w v l h g. narrow_mod w l h)
    (of_narrow Riscv64 _ _ (λ w v l h g. narrow_div_unsigned w l h)
    (of_narrow Riscv64 _ _ (λ w v l h g. narrow_mod_unsigned w l h) (none Riscv64)))))))))))))))))))))))))))

pub shifts_sound : AllSound Riscv64 (flat_map rules_of shifts)
unfolding family shifts
shifts_sound =
    of_narrow_by_each _ _ (λ w v l h g. narrow_right_signed w v l h)
    (of_narrow_by_each _ _ (λ w v l h g. narrow_right w v h)
    (of_each_by_narrow _ _ (λ w v l h g. left_by_narrow w v h g)
    (of_each_by_64 _ _ (λ w h. left_by_word w h)
    (of_64_by_narrow _ _ (λ v g. signed_by_narrow v g)
    (of_64_by_64 _ _ signed_by_word
    (of_64_by_narrow _ _ (λ v g. right_by_narrow v g)
    (of_64_by_64 _ _ right_by_word (none Riscv64))))))))

pub comparisons_sound : AllSound Riscv64 (flat_map rules_of comparisons)
unfolding family comparisons
comparisons_sound =
    of_64 Riscv64 _ _ equal_sound
    (of_narrow Riscv64 _ _ (λ w v l h g. narrow_equal w h)
    (of_64 Riscv64 _ _ unequal_sound
    (of_narrow Riscv64 _ _ (λ w v l h g. narrow_unequal w h)
    (of_one Riscv64 _ _ equal_address
    (of_one Riscv64 _ _ unequal_address
    (of_64 Riscv64 _ _ less_sound
    (of_64 Riscv64 _ _ less_unsigned_sound
    (of_one Riscv64 _ _ in_bounds_sound
    (of_64 Riscv64 _ _ at_most_sound
    (of_64 Riscv64 _ _ at_most_unsigned_sound
    (of_one Riscv64 _ _ in_slice_bounds_sound
    (of_narrow Riscv64 _ _ (λ w v l h g. narrow_less w l h)
    (of_narrow Riscv64 _ _ (λ w v l h g. narrow_at_most w l h)
    (of_narrow Riscv64 _ _ (λ w v l h g. narrow_less_unsigned w h)
    (of_narrow Riscv64 _ _ (λ w v l h g. narrow_at_most_unsigned w h)
    (of_one Riscv64 _ _ not_nil_sound
    (of_one Riscv64 _ _ both_sound
    (of_one Riscv64 _ _ either_sound
    (of_one Riscv64 _ _ unlike_sound
    (of_one Riscv64 _ _ alike_sound
    (of_one Riscv64 _ _ not_sound
    (of_8 Riscv64 _ _ truth_as_byte_sound (none Riscv64)))))))))))))))))))))))

pub conversions_sound : AllSound Riscv64 (flat_map rules_of conversions)
unfolding family conversions
conversions_sound =
    of_rising _ _ (λ w v l h g. extend_signed_sound w v l h g)
    (of_rising _ _ (λ w v l h g. extend_sound w v h g)
    (of_falling _ _ truncate_sound
    (of_one Riscv64 _ _ sign_mask_sound
    (of_one Riscv64 _ _ zero_mask_sound
    (of_64 Riscv64 _ _ rotate_sound
    (of_one Riscv64 _ _ rotate_half_sound
    (of_one Riscv64 _ _ select_sound (none Riscv64))))))))

pub accesses_sound : AllSound Riscv64 (flat_map rules_of accesses)
unfolding family accesses
accesses_sound =
    of_up_to_8 _ _ load_sound
    (of_one Riscv64 _ _ store_bool_sound
    (of_up_to_8 _ _ store_sound
    (of_one Riscv64 _ _ zero_sound
    (of_one Riscv64 _ _ move_sound
    (of_one Riscv64 _ _ nil_check_sound
    (of_one Riscv64 _ _ panic_sound (none Riscv64)))))))

pub immediates_sound : AllSound Riscv64 (flat_map rules_of immediates)
unfolding family immediates
immediates_sound =
    of_one Riscv64 _ _ add_constant
    (of_one Riscv64 _ _ and_constant
    (of_one Riscv64 _ _ or_constant
    (of_one Riscv64 _ _ xor_constant
    (of_one Riscv64 _ _ left_constant
    (of_one Riscv64 _ _ right_constant
    (of_one Riscv64 _ _ signed_constant
    (of_up_to_8 _ _ (λ w h. load_near_sound w)
    (of_up_to_8 _ _ (λ w h. store_near_sound w)
    (of_one Riscv64 _ _ store_bool_near_sound (none Riscv64))))))))))

-- ---- the list
pub rv_list_sound : AllSound Riscv64 rv_list
unfolding rv_list
rv_list_sound = both Riscv64 (flat_map rules_of arithmetic) _ arithmetic_sound (both Riscv64 (flat_map rules_of shifts) _ shifts_sound (both Riscv64 (flat_map rules_of comparisons) _ comparisons_sound (both Riscv64 (flat_map rules_of conversions) _ conversions_sound (both Riscv64 (flat_map rules_of accesses) _ accesses_sound immediates_sound))))
