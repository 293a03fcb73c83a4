-- Families of comparisons and truth values are sound.
use Rattle.std.proofs.Common.{ℕ, ◌%◌, ◌^◌, ◌≤◌, refl, ap, ◌∙◌, arith, pos, Bool, not, nat_lt, nat_le, ◌==◌}
use Rattle.bk_ops.specs.Arithmetic.{as_bit}
use Rattle.bk_ops.specs.declared.types.Target.TheVariants.{Arm}
use Rattle.bk_ops.specs.declared.family.Family.TheVariants as generic
use Rattle.bk_ops.specs.declared.family.ArmOp.TheVariants as arm
use Rattle.bk_ops.specs.Formulas.{formula, arm_formula}
use Rattle.bk_ops.specs.Table.{row, arm_row, entry}
use Rattle.bk_rule.specs.Trees.{op}
use Rattle.bk_rules_words.specs.Sound.{SoundInWords}
use Rattle.bk_rule.proofs.Opened.{opened}
use Rattle.bk_rules_words.specs.Families.{two, one_with, not_nil, widen, equal_bools}
use Rattle.bk_rules_words.proofs.LowBits.{low, low_and, low_or}
use Rattle.bk_rules_words.proofs.Extended.{zeros, less_signs}
use Rattle.bk_rules_words.proofs.Bits.{unequal_bits, equal_bits, not_bit, bit_as_byte}

-- ---- of narrow numbers
pub narrow_equal : (w : ℕ) → w ≤ 32 → SoundInWords Arm (widen (op generic.Eq w 0) (op generic.Eq 32 0) generic.ZeroExt)
unfolding SoundInWords opened formula arm_formula row arm_row entry
narrow_equal w h e s ty k kk x d a p b q = (λ n r. r ∙ (ap (λ i. as_bit (i == b % 2 ^ 32) % 2) (zeros w 32 (e.value 0) a h p) ∙ ap (λ i. as_bit (e.value 0 % 2 ^ w == i) % 2) (zeros w 32 (e.value 1) b h q)), refl, λ calls p places f a l. refl)

pub narrow_unequal : (w : ℕ) → w ≤ 32 → SoundInWords Arm (widen (op generic.Neq w 0) (op generic.Neq 32 0) generic.ZeroExt)
unfolding SoundInWords opened formula arm_formula row arm_row entry
narrow_unequal w h e s ty k kk x d a p b q = (λ n r. r ∙ (ap (λ i. as_bit (not (i == b % 2 ^ 32)) % 2) (zeros w 32 (e.value 0) a h p) ∙ ap (λ i. as_bit (not (e.value 0 % 2 ^ w == i)) % 2) (zeros w 32 (e.value 1) b h q)), refl, λ calls p places f a l. refl)

pub narrow_less_unsigned : (w : ℕ) → w ≤ 32 → SoundInWords Arm (widen (op generic.LessU w 0) (op generic.LessU 32 0) generic.ZeroExt)
unfolding SoundInWords opened formula arm_formula row arm_row entry
narrow_less_unsigned w h e s ty k kk x d a p b q = (λ n r. r ∙ (ap (λ i. as_bit (nat_lt i (b % 2 ^ 32)) % 2) (zeros w 32 (e.value 0) a h p) ∙ ap (λ i. as_bit (nat_lt (e.value 0 % 2 ^ w) i) % 2) (zeros w 32 (e.value 1) b h q)), refl, λ calls p places f a l. refl)

pub narrow_at_most_unsigned : (w : ℕ) → w ≤ 32 → SoundInWords Arm (widen (op generic.LeqU w 0) (op generic.LeqU 32 0) generic.ZeroExt)
unfolding SoundInWords opened formula arm_formula row arm_row entry
narrow_at_most_unsigned w h e s ty k kk x d a p b q = (λ n r. r ∙ (ap (λ i. as_bit (nat_le i (b % 2 ^ 32)) % 2) (zeros w 32 (e.value 0) a h p) ∙ ap (λ i. as_bit (nat_le (e.value 0 % 2 ^ w) i) % 2) (zeros w 32 (e.value 1) b h q)), refl, λ calls p places f a l. refl)

pub narrow_less : (w : ℕ) → 1 ≤ w → w ≤ 32 → SoundInWords Arm (widen (op generic.Less w 0) (op generic.Less 32 0) generic.SignExt)
unfolding SoundInWords opened formula arm_formula row arm_row entry
narrow_less w l h e s ty k kk x d a p b q = (λ n r. r ∙ ap (λ (t : Bool). as_bit t % 2) (less_signs w 32 (e.value 0) (e.value 1) a b l h p q), refl, λ calls p places f a l. refl)

pub narrow_at_most : (w : ℕ) → 1 ≤ w → w ≤ 32 → SoundInWords Arm (widen (op generic.Leq w 0) (op generic.Leq 32 0) generic.SignExt)
unfolding SoundInWords opened formula arm_formula row arm_row entry
narrow_at_most w l h e s ty k kk x d a p b q = (λ n r. r ∙ ap (λ (t : Bool). as_bit (not t) % 2) (less_signs w 32 (e.value 1) (e.value 0) b a l h q p), refl, λ calls p places f a l. refl)

-- ---- of words
pub equal_sound : SoundInWords Arm (two generic.Eq (generic.Arm arm.SetEq) 32 0)
unfolding SoundInWords opened formula arm_formula row arm_row entry
equal_sound e s ty k kk x d = (λ n q. low 1 32 n _ (omega arith) q, refl, λ calls p places f a l. refl)

pub unequal_sound : SoundInWords Arm (two generic.Neq (generic.Arm arm.SetNe) 32 0)
unfolding SoundInWords opened formula arm_formula row arm_row entry
unequal_sound e s ty k kk x d = (λ n q. low 1 32 n _ (omega arith) q, refl, λ calls p places f a l. refl)

pub less_sound : SoundInWords Arm (two generic.Less (generic.Arm arm.SetLt) 32 0)
unfolding SoundInWords opened formula arm_formula row arm_row entry
less_sound e s ty k kk x d = (λ n q. low 1 32 n _ (omega arith) q, refl, λ calls p places f a l. refl)

pub at_most_sound : SoundInWords Arm (two generic.Leq (generic.Arm arm.SetLe) 32 0)
unfolding SoundInWords opened formula arm_formula row arm_row entry
at_most_sound e s ty k kk x d = (λ n q. low 1 32 n _ (omega arith) q, refl, λ calls p places f a l. refl)

pub less_unsigned_sound : SoundInWords Arm (two generic.LessU (generic.Arm arm.SetLo) 32 0)
unfolding SoundInWords opened formula arm_formula row arm_row entry
less_unsigned_sound e s ty k kk x d = (λ n q. low 1 32 n _ (omega arith) q, refl, λ calls p places f a l. refl)

pub at_most_unsigned_sound : SoundInWords Arm (two generic.LeqU (generic.Arm arm.SetLs) 32 0)
unfolding SoundInWords opened formula arm_formula row arm_row entry
at_most_unsigned_sound e s ty k kk x d = (λ n q. low 1 32 n _ (omega arith) q, refl, λ calls p places f a l. refl)

pub equal_address_sound : SoundInWords Arm (two generic.EqPtr (generic.Arm arm.SetEq) 0 0)
unfolding SoundInWords opened formula arm_formula row arm_row entry
equal_address_sound e s ty k kk x d = (λ n q. low 1 32 n _ (omega arith) q, refl, λ calls p places f a l. refl)

pub unequal_address_sound : SoundInWords Arm (two generic.NeqPtr (generic.Arm arm.SetNe) 0 0)
unfolding SoundInWords opened formula arm_formula row arm_row entry
unequal_address_sound e s ty k kk x d = (λ n q. low 1 32 n _ (omega arith) q, refl, λ calls p places f a l. refl)

pub in_bounds_sound : SoundInWords Arm (two generic.IsInBounds (generic.Arm arm.SetLo) 0 0)
unfolding SoundInWords opened formula arm_formula row arm_row entry
in_bounds_sound e s ty k kk x d = (λ n q. low 1 32 n _ (omega arith) q, refl, λ calls p places f a l. refl)

pub in_slice_bounds_sound : SoundInWords Arm (two generic.IsSliceInBounds (generic.Arm arm.SetLs) 0 0)
unfolding SoundInWords opened formula arm_formula row arm_row entry
in_slice_bounds_sound e s ty k kk x d = (λ n q. low 1 32 n _ (omega arith) q, refl, λ calls p places f a l. refl)

pub not_nil_sound : SoundInWords Arm (not_nil (generic.Arm arm.SetNe) (generic.Arm arm.Const))
unfolding SoundInWords opened formula arm_formula row arm_row entry
not_nil_sound e s ty k kk x d y f = (λ n q. low 1 32 n _ (omega arith) q ∙ ap (λ i. as_bit (not (e.value 0 % 2 ^ 32 == i)) % 2) f, refl, λ calls p places f a l. refl)

-- ---- truth values
pub both_sound : SoundInWords Arm (two generic.AndB (generic.Arm arm.And) 0 0)
unfolding SoundInWords opened formula arm_formula row arm_row entry
both_sound e s ty k kk x d = (λ n q. low_and 1 32 (e.value 0) (e.value 1) n (omega arith) q, refl, λ calls p places f a l. refl)

pub either_sound : SoundInWords Arm (two generic.OrB (generic.Arm arm.Orr) 0 0)
unfolding SoundInWords opened formula arm_formula row arm_row entry
either_sound e s ty k kk x d = (λ n q. low_or 1 32 (e.value 0) (e.value 1) n (omega arith) q, refl, λ calls p places f a l. refl)

pub unlike_sound : SoundInWords Arm (two generic.NeqB (generic.Arm arm.Eor) 0 0)
unfolding SoundInWords opened formula arm_formula row arm_row entry
unlike_sound e s ty k kk x d = (λ n q. unequal_bits 32 (e.value 0) (e.value 1) n (omega arith) q, refl, λ calls p places f a l. refl)

pub alike_sound : SoundInWords Arm (equal_bools (generic.Arm arm.Eor) (generic.Arm arm.Eori))
unfolding SoundInWords opened formula arm_formula row arm_row entry
alike_sound e s ty k kk x d z p = (λ n q. equal_bits 32 (e.value 0) (e.value 1) z n (omega arith) p q, refl, λ calls p places f a l. refl)

pub not_sound : SoundInWords Arm (one_with generic.Not (generic.Arm arm.Eori) (pos 1) 0)
unfolding SoundInWords opened formula arm_formula row arm_row entry
not_sound e s ty k kk x d = (λ n q. not_bit 32 (e.value 0) n (omega arith) q, refl, λ calls p places f a l. refl)

pub truth_as_byte_sound : SoundInWords Arm (one_with generic.CvtBoolToUint8 (generic.Arm arm.Andi) (pos 1) 8)
unfolding SoundInWords opened formula arm_formula row arm_row entry
truth_as_byte_sound e s ty k kk x d = (λ n q. bit_as_byte 32 (e.value 0) n (omega arith) q, refl, λ calls p places f a l. refl)
