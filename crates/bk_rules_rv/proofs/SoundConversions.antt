-- Families of extensions, masks, rotations and choices are sound.
use Rattle.std.proofs.Common.{ℕ, ◌≤◌, refl}
use Rattle.bk_ops.specs.declared.types.Target.TheVariants.{Riscv64}
use Rattle.bk_ops.specs.declared.family.Family.TheVariants as generic
use Rattle.bk_ops.specs.declared.family.Family.TheVariants.{Rv}
use Rattle.bk_ops.specs.declared.family.RvOp.TheVariants as rv
use Rattle.bk_ops.specs.Formulas.{formula, rv_formula}
use Rattle.bk_ops.specs.Table.{row, rv_row, entry}
use Rattle.bk_rule.proofs.Opened.{opened}
use Rattle.bk_rules_words.specs.Sound.{SoundInWords}
use Rattle.bk_ops.specs.Types.{width_of}
use Rattle.bk_rules_words.specs.Families.{two, three, extend, truncate, sign_mask, zero_mask, rotate_half}
use Rattle.bk_rules_words.proofs.LowBits.{low, cut_twice}
use Rattle.bk_rules_rv.proofs.Products.{extend_signs, extend_zeros, mask_of_sign, mask_of_zero, rotate_law}

pub extend_signed_sound : (w v : ℕ) → 1 ≤ w → w ≤ 64 → v ≤ 64 → SoundInWords Riscv64 (extend generic.SignExt (Rv rv.Srai) w v)
unfolding SoundInWords opened formula rv_formula row rv_row entry
extend_signed_sound w v l h g e s ty k kk x d z p = (λ n q. extend_signs w v (e.value 0) z n l h g p q, refl, λ calls p places f a l. refl)

pub extend_sound : (w v : ℕ) → w ≤ 64 → v ≤ 64 → SoundInWords Riscv64 (extend generic.ZeroExt (Rv rv.Srli) w v)
unfolding SoundInWords opened formula rv_formula row rv_row entry
extend_sound w v h g e s ty k kk x d z p = (λ n q. extend_zeros w v (e.value 0) z n h g p q, refl, λ calls p places f a l. refl)

pub truncate_sound : (w v : ℕ) → v ≤ w → SoundInWords Riscv64 (truncate w v)
unfolding SoundInWords opened formula rv_formula row rv_row entry
truncate_sound w v h e s ty k kk x d = (cut_twice w v (e.value 0) h, refl, refl)

pub sign_mask_sound : SoundInWords Riscv64 sign_mask
unfolding SoundInWords opened formula rv_formula row rv_row entry
sign_mask_sound e s ty k kk x d a p = (λ n q. mask_of_sign (e.value 0) a n p q, refl, λ calls p places f a l. refl)

pub zero_mask_sound : SoundInWords Riscv64 zero_mask
unfolding SoundInWords opened formula rv_formula row rv_row entry
zero_mask_sound e s ty k kk x d u p t q = (λ n r. mask_of_zero (e.value 0) u t n p q r, refl, λ calls p places f a l. refl)

pub rotate_sound : SoundInWords Riscv64 (two generic.RotateLeft (Rv rv.Rotl) 64 0)
unfolding SoundInWords opened formula rv_formula row rv_row entry
rotate_sound e s ty k kk x d = (λ n q. q, refl, λ calls p places f a l. refl)

pub rotate_half_sound : SoundInWords Riscv64 rotate_half
unfolding SoundInWords opened formula rv_formula row rv_row entry
rotate_half_sound e s ty k kk x d u fu a fa z fz m fm c fc b fb = (λ n q. rotate_law (e.value 0) (e.value 1) u a z m c b n fu fa fz fm fc fb q, refl, λ calls p places f a l. refl)

pub select_sound : SoundInWords Riscv64 (three generic.CondSelect (Rv rv.Sel))
unfolding SoundInWords opened formula rv_formula row rv_row entry
select_sound e s y k kk x d = (λ n q. low (width_of y Riscv64) 64 n _ d.1 q, refl, λ calls p places f a l. refl)
