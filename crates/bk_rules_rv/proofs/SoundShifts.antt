-- Families of shifts are sound.
use Rattle.std.proofs.Common.{◌≡◌, ℕ, ◌*◌, ◌/◌, ◌%◌, ◌^◌, ◌≤◌, refl, ap, ◌∙◌, pos}
use Rattle.std.specs.Int.{int_div_euclid}
use Rattle.bk_num.specs.Word.{signed, residue}
use Rattle.bk_ops.specs.declared.types.Target.TheVariants.{Riscv64}
use Rattle.bk_ops.specs.declared.family.Family.TheVariants as generic
use Rattle.bk_ops.specs.declared.family.Family.TheVariants.{Rv}
use Rattle.bk_ops.specs.declared.family.RvOp.TheVariants as rv
use Rattle.bk_ops.specs.Formulas.{formula, rv_formula}
use Rattle.bk_ops.specs.Table.{row, rv_row, entry}
use Rattle.bk_rule.proofs.Opened.{opened}
use Rattle.bk_rule.specs.Trees.{op}
use Rattle.bk_rules_words.specs.Sound.{SoundInWords}
use Rattle.bk_rules_words.specs.Families.{two, widen_shift, shift_count}
use Rattle.bk_rules_words.proofs.LowBits.{low_left}
use Rattle.bk_rules_words.proofs.Extended.{zeros, right_signs, right_zeros}

-- ---- a count that was extended
left_count : (w v x y b n : ℕ) → w ≤ 64 → v ≤ 64 → b % 2 ^ 64 ≡ y % 2 ^ v % 2 ^ 64 → n % 2 ^ 64 ≡ x % 2 ^ 64 * 2 ^ (b % 2 ^ 64) % 2 ^ 64 % 2 ^ 64 →
    n % 2 ^ w ≡ x % 2 ^ w * 2 ^ (y % 2 ^ v) % 2 ^ w % 2 ^ w
left_count w v x y b n h g q e = low_left w 64 x (y % 2 ^ v) n h (e ∙ ap (λ k. x % 2 ^ 64 * 2 ^ k % 2 ^ 64 % 2 ^ 64) (zeros v 64 y b g q))

right_count : (v x y b n : ℕ) → v ≤ 64 → b % 2 ^ 64 ≡ y % 2 ^ v % 2 ^ 64 → n % 2 ^ 64 ≡ x % 2 ^ 64 / 2 ^ (b % 2 ^ 64) % 2 ^ 64 →
    n % 2 ^ 64 ≡ x % 2 ^ 64 / 2 ^ (y % 2 ^ v) % 2 ^ 64
right_count v x y b n g q e = e ∙ ap (λ k. x % 2 ^ 64 / 2 ^ k % 2 ^ 64) (zeros v 64 y b g q)

signed_count : (v x y b n : ℕ) → v ≤ 64 → b % 2 ^ 64 ≡ y % 2 ^ v % 2 ^ 64 →
    n % 2 ^ 64 ≡ residue 64 (int_div_euclid (signed 64 (x % 2 ^ 64)) (pos (2 ^ (b % 2 ^ 64)))) % 2 ^ 64 →
    n % 2 ^ 64 ≡ residue 64 (int_div_euclid (signed 64 (x % 2 ^ 64)) (pos (2 ^ (y % 2 ^ v)))) % 2 ^ 64
signed_count v x y b n g q e = e ∙ ap (λ k. residue 64 (int_div_euclid (signed 64 (x % 2 ^ 64)) (pos (2 ^ k))) % 2 ^ 64) (zeros v 64 y b g q)

-- ---- families
pub narrow_right_signed : (w v : ℕ) → 1 ≤ w → w ≤ 64 → SoundInWords Riscv64 (widen_shift (op generic.Rsh w v) (op generic.Rsh 64 v) generic.SignExt)
unfolding SoundInWords opened formula rv_formula row rv_row entry
narrow_right_signed w v l h e s ty k kk x d a p = (λ n q. right_signs w 64 (e.value 0) a (e.value 1 % 2 ^ v) n l h p q, refl, λ calls p places f a l. refl)

pub narrow_right : (w v : ℕ) → w ≤ 64 → SoundInWords Riscv64 (widen_shift (op generic.RshU w v) (op generic.RshU 64 v) generic.ZeroExt)
unfolding SoundInWords opened formula rv_formula row rv_row entry
narrow_right w v h e s ty k kk x d a p = (λ n q. right_zeros w 64 (e.value 0) a (e.value 1 % 2 ^ v) n h p q, refl, λ calls p places f a l. refl)

pub left_by_narrow : (w v : ℕ) → w ≤ 64 → v ≤ 64 → SoundInWords Riscv64 (shift_count generic.Lsh (Rv rv.Lsl) w v)
unfolding SoundInWords opened formula rv_formula row rv_row entry
left_by_narrow w v h g e s ty k kk x d b p = (λ n q. left_count w v (e.value 0) (e.value 1) b n h g p q, refl, λ calls p places f a l. refl)

pub left_by_word : (w : ℕ) → w ≤ 64 → SoundInWords Riscv64 (two generic.Lsh (Rv rv.Lsl) w 64)
unfolding SoundInWords opened formula rv_formula row rv_row entry
left_by_word w h e s ty k kk x d = (λ n q. low_left w 64 (e.value 0) (e.value 1 % 2 ^ 64) n h q, refl, λ calls p places f a l. refl)

pub signed_by_narrow : (v : ℕ) → v ≤ 64 → SoundInWords Riscv64 (shift_count generic.Rsh (Rv rv.Asr) 64 v)
unfolding SoundInWords opened formula rv_formula row rv_row entry
signed_by_narrow v g e s ty k kk x d b p = (λ n q. signed_count v (e.value 0) (e.value 1) b n g p q, refl, λ calls p places f a l. refl)

pub signed_by_word : SoundInWords Riscv64 (two generic.Rsh (Rv rv.Asr) 64 64)
unfolding SoundInWords opened formula rv_formula row rv_row entry
signed_by_word e s ty k kk x d = (λ n q. q, refl, λ calls p places f a l. refl)

pub right_by_narrow : (v : ℕ) → v ≤ 64 → SoundInWords Riscv64 (shift_count generic.RshU (Rv rv.Lsr) 64 v)
unfolding SoundInWords opened formula rv_formula row rv_row entry
right_by_narrow v g e s ty k kk x d b p = (λ n q. right_count v (e.value 0) (e.value 1) b n g p q, refl, λ calls p places f a l. refl)

pub right_by_word : SoundInWords Riscv64 (two generic.RshU (Rv rv.Lsr) 64 64)
unfolding SoundInWords opened formula rv_formula row rv_row entry
right_by_word e s ty k kk x d = (λ n q. q, refl, λ calls p places f a l. refl)
