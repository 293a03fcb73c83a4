-- Families of comparisons and truth values are sound.
use Rattle.std.proofs.Common.{ℕ, ◌%◌, ◌^◌, ◌≤◌, refl, ap, ◌∙◌, arith, pos, Bool, not, nat_lt, nat_le}
use Rattle.bk_ops.specs.declared.types.Target.TheVariants.{Riscv64}
use Rattle.bk_ops.specs.declared.family.Family.TheVariants as generic
use Rattle.bk_ops.specs.declared.family.Family.TheVariants.{Rv}
use Rattle.bk_ops.specs.declared.family.RvOp.TheVariants as rv
use Rattle.bk_ops.specs.Formulas.{formula, rv_formula}
use Rattle.bk_ops.specs.Table.{row, rv_row, entry}
use Rattle.bk_rule.proofs.Opened.{opened}
use Rattle.bk_rule.specs.Trees.{op}
use Rattle.bk_rules_words.specs.Sound.{SoundInWords}
use Rattle.bk_ops.specs.Arithmetic.{as_bit, less}
use Rattle.bk_ops.proofs.Order.{not_lt}
use Rattle.bk_rules_words.specs.Families.{one, two, one_with, widen, test, test_low, at_most, equal_bools}
use Rattle.bk_rules_words.proofs.LowBits.{low, low_and, low_or}
use Rattle.bk_rules_words.proofs.Extended.{zeros, less_signs}
use Rattle.bk_rules_words.proofs.Bits.{unequal_bits, equal_bits, not_bit, bit_as_byte}
use Rattle.bk_rules_rv.proofs.Bits.{equal_word, unequal_word, equal_low, unequal_low, turned}

pub equal_sound : SoundInWords Riscv64 (test generic.Eq (Rv rv.Seqz) 64)
unfolding SoundInWords opened formula rv_formula row rv_row entry
equal_sound e s ty k kk x d z p = (λ n q. equal_word (e.value 0) (e.value 1) z n p q, refl, λ calls p places f a l. refl)

pub narrow_equal : (w : ℕ) → w ≤ 64 → SoundInWords Riscv64 (test_low generic.Eq (Rv rv.Seqz) w)
unfolding SoundInWords opened formula rv_formula row rv_row entry
narrow_equal w h e s ty k kk x d z p u g = (λ n q. equal_low w (e.value 0) (e.value 1) z u n h p g q, refl, λ calls p places f a l. refl)

pub unequal_sound : SoundInWords Riscv64 (test generic.Neq (Rv rv.Snez) 64)
unfolding SoundInWords opened formula rv_formula row rv_row entry
unequal_sound e s ty k kk x d z p = (λ n q. unequal_word (e.value 0) (e.value 1) z n p q, refl, λ calls p places f a l. refl)

pub narrow_unequal : (w : ℕ) → w ≤ 64 → SoundInWords Riscv64 (test_low generic.Neq (Rv rv.Snez) w)
unfolding SoundInWords opened formula rv_formula row rv_row entry
narrow_unequal w h e s ty k kk x d z p u g = (λ n q. unequal_low w (e.value 0) (e.value 1) z u n h p g q, refl, λ calls p places f a l. refl)

pub equal_address : SoundInWords Riscv64 (test generic.EqPtr (Rv rv.Seqz) 0)
unfolding SoundInWords opened formula rv_formula row rv_row entry
equal_address e s ty k kk x d z p = (λ n q. equal_word (e.value 0) (e.value 1) z n p q, refl, λ calls p places f a l. refl)

pub unequal_address : SoundInWords Riscv64 (test generic.NeqPtr (Rv rv.Snez) 0)
unfolding SoundInWords opened formula rv_formula row rv_row entry
unequal_address e s ty k kk x d z p = (λ n q. unequal_word (e.value 0) (e.value 1) z n p q, refl, λ calls p places f a l. refl)

pub less_sound : SoundInWords Riscv64 (two generic.Less (Rv rv.Slt) 64 0)
unfolding SoundInWords opened formula rv_formula row rv_row entry
less_sound e s ty k kk x d = (λ n q. low 1 64 n _ (omega arith) q, refl, λ calls p places f a l. refl)

pub less_unsigned_sound : SoundInWords Riscv64 (two generic.LessU (Rv rv.Sltu) 64 0)
unfolding SoundInWords opened formula rv_formula row rv_row entry
less_unsigned_sound e s ty k kk x d = (λ n q. low 1 64 n _ (omega arith) q, refl, λ calls p places f a l. refl)

pub in_bounds_sound : SoundInWords Riscv64 (two generic.IsInBounds (Rv rv.Sltu) 0 0)
unfolding SoundInWords opened formula rv_formula row rv_row entry
in_bounds_sound e s ty k kk x d = (λ n q. low 1 64 n _ (omega arith) q, refl, λ calls p places f a l. refl)

pub at_most_sound : SoundInWords Riscv64 (at_most generic.Leq (Rv rv.Slt) 64)
unfolding SoundInWords opened formula rv_formula row rv_row entry
at_most_sound e s ty k kk x d z p = (λ n q. turned (less 64 (e.value 1 % 2 ^ 64) (e.value 0 % 2 ^ 64)) z n p q, refl, λ calls p places f a l. refl)

pub at_most_unsigned_sound : SoundInWords Riscv64 (at_most generic.LeqU (Rv rv.Sltu) 64)
unfolding SoundInWords opened formula rv_formula row rv_row entry
at_most_unsigned_sound e s ty k kk x d z p = (λ n q. turned (nat_lt (e.value 1 % 2 ^ 64) (e.value 0 % 2 ^ 64)) z n p q ∙ ap (λ (t : Bool). as_bit t % 2) (not_lt (e.value 1 % 2 ^ 64) (e.value 0 % 2 ^ 64)), refl, λ calls p places f a l. refl)

pub in_slice_bounds_sound : SoundInWords Riscv64 (at_most generic.IsSliceInBounds (Rv rv.Sltu) 0)
unfolding SoundInWords opened formula rv_formula row rv_row entry
in_slice_bounds_sound e s ty k kk x d z p = (λ n q. turned (nat_lt (e.value 1 % 2 ^ 64) (e.value 0 % 2 ^ 64)) z n p q ∙ ap (λ (t : Bool). as_bit t % 2) (not_lt (e.value 1 % 2 ^ 64) (e.value 0 % 2 ^ 64)), refl, λ calls p places f a l. refl)

pub narrow_less : (w : ℕ) → 1 ≤ w → w ≤ 64 → SoundInWords Riscv64 (widen (op generic.Less w 0) (op generic.Less 64 0) generic.SignExt)
unfolding SoundInWords opened formula rv_formula row rv_row entry
narrow_less w l h e s ty k kk x d a p b q = (λ n r. r ∙ ap (λ (t : Bool). as_bit t % 2) (less_signs w 64 (e.value 0) (e.value 1) a b l h p q), refl, λ calls p places f a l. refl)

pub narrow_at_most : (w : ℕ) → 1 ≤ w → w ≤ 64 → SoundInWords Riscv64 (widen (op generic.Leq w 0) (op generic.Leq 64 0) generic.SignExt)
unfolding SoundInWords opened formula rv_formula row rv_row entry
narrow_at_most w l h e s ty k kk x d a p b q = (λ n r. r ∙ ap (λ (t : Bool). as_bit (not t) % 2) (less_signs w 64 (e.value 1) (e.value 0) b a l h q p), refl, λ calls p places f a l. refl)

pub narrow_less_unsigned : (w : ℕ) → w ≤ 64 → SoundInWords Riscv64 (widen (op generic.LessU w 0) (op generic.LessU 64 0) generic.ZeroExt)
unfolding SoundInWords opened formula rv_formula row rv_row entry
narrow_less_unsigned w h e s ty k kk x d a p b q = (λ n r. r ∙ (ap (λ i. as_bit (nat_lt i (b % 2 ^ 64)) % 2) (zeros w 64 (e.value 0) a h p) ∙ ap (λ i. as_bit (nat_lt (e.value 0 % 2 ^ w) i) % 2) (zeros w 64 (e.value 1) b h q)), refl, λ calls p places f a l. refl)

pub narrow_at_most_unsigned : (w : ℕ) → w ≤ 64 → SoundInWords Riscv64 (widen (op generic.LeqU w 0) (op generic.LeqU 64 0) generic.ZeroExt)
unfolding SoundInWords opened formula rv_formula row rv_row entry
narrow_at_most_unsigned w h e s ty k kk x d a p b q = (λ n r. r ∙ (ap (λ i. as_bit (nat_le i (b % 2 ^ 64)) % 2) (zeros w 64 (e.value 0) a h p) ∙ ap (λ i. as_bit (nat_le (e.value 0 % 2 ^ w) i) % 2) (zeros w 64 (e.value 1) b h q)), refl, λ calls p places f a l. refl)

pub not_nil_sound : SoundInWords Riscv64 (one generic.IsNonNil (Rv rv.Snez) 0 0)
unfolding SoundInWords opened formula rv_formula row rv_row entry
not_nil_sound e s ty k kk x d = (λ n q. low 1 64 n _ (omega arith) q, refl, λ calls p places f a l. refl)

pub both_sound : SoundInWords Riscv64 (two generic.AndB (Rv rv.And) 0 0)
unfolding SoundInWords opened formula rv_formula row rv_row entry
both_sound e s ty k kk x d = (λ n q. low_and 1 64 (e.value 0) (e.value 1) n (omega arith) q, refl, λ calls p places f a l. refl)

pub either_sound : SoundInWords Riscv64 (two generic.OrB (Rv rv.Or) 0 0)
unfolding SoundInWords opened formula rv_formula row rv_row entry
either_sound e s ty k kk x d = (λ n q. low_or 1 64 (e.value 0) (e.value 1) n (omega arith) q, refl, λ calls p places f a l. refl)

pub unlike_sound : SoundInWords Riscv64 (two generic.NeqB (Rv rv.Xor) 0 0)
unfolding SoundInWords opened formula rv_formula row rv_row entry
unlike_sound e s ty k kk x d = (λ n q. unequal_bits 64 (e.value 0) (e.value 1) n (omega arith) q, refl, λ calls p places f a l. refl)

pub alike_sound : SoundInWords Riscv64 (equal_bools (Rv rv.Xor) (Rv rv.Xori))
unfolding SoundInWords opened formula rv_formula row rv_row entry
alike_sound e s ty k kk x d z p = (λ n q. equal_bits 64 (e.value 0) (e.value 1) z n (omega arith) p q, refl, λ calls p places f a l. refl)

pub not_sound : SoundInWords Riscv64 (one_with generic.Not (Rv rv.Xori) (pos 1) 0)
unfolding SoundInWords opened formula rv_formula row rv_row entry
not_sound e s ty k kk x d = (λ n q. not_bit 64 (e.value 0) n (omega arith) q, refl, λ calls p places f a l. refl)

pub truth_as_byte_sound : SoundInWords Riscv64 (one_with generic.CvtBoolToUint8 (Rv rv.Andi) (pos 1) 8)
unfolding SoundInWords opened formula rv_formula row rv_row entry
truth_as_byte_sound e s ty k kk x d = (λ n q. bit_as_byte 64 (e.value 0) n (omega arith) q, refl, λ calls p places f a l. refl)
