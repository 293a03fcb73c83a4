-- Families in which a constant stands beside the machine op are sound.
use Rattle.std.proofs.Common.{◌+◌, ◌*◌, ◌/◌, ◌%◌, ◌^◌, refl, ap, ◌∙◌, bit_and, bit_or, bit_xor, pos}
use Rattle.bk_num.specs.Word.{signed, residue}
use Rattle.bk_ops.specs.declared.types.Target.TheVariants.{Riscv64}
use Rattle.bk_ops.specs.declared.family.Family.TheVariants.{Rv}
use Rattle.bk_ops.specs.declared.family.RvOp.TheVariants as rv
use Rattle.bk_ops.specs.Formulas.{formula, rv_formula}
use Rattle.bk_ops.specs.Table.{row, rv_row, entry}
use Rattle.bk_rule.proofs.Opened.{opened}
use Rattle.bk_rules_words.specs.Sound.{SoundInWords}
use Rattle.std.specs.Int.{int_div_euclid}
use Rattle.bk_rules_words.specs.declared.lines.Fits.TheVariants.{Is12, Below}
use Rattle.bk_rules_words.specs.Families.{immediate}
use Rattle.bk_rules_words.proofs.LowBits.{held_constant}

pub add_constant : SoundInWords Riscv64 (immediate (Rv rv.Add) (Rv rv.Const) (Rv rv.Addi) Is12)
unfolding SoundInWords opened formula rv_formula row rv_row entry
add_constant e s t1 k1 x1 y g ty k kk x d = (λ n q. q ∙ ap (λ i. (e.value 0 % 2 ^ 64 + i) % 2 ^ 64 % 2 ^ 64) (held_constant 64 (e.int 1) y g), refl, λ calls p places f a l. refl)

pub and_constant : SoundInWords Riscv64 (immediate (Rv rv.And) (Rv rv.Const) (Rv rv.Andi) Is12)
unfolding SoundInWords opened formula rv_formula row rv_row entry
and_constant e s t1 k1 x1 y g ty k kk x d = (λ n q. q ∙ ap (λ i. bit_and (e.value 0 % 2 ^ 64) i % 2 ^ 64) (held_constant 64 (e.int 1) y g), refl, λ calls p places f a l. refl)

pub or_constant : SoundInWords Riscv64 (immediate (Rv rv.Or) (Rv rv.Const) (Rv rv.Ori) Is12)
unfolding SoundInWords opened formula rv_formula row rv_row entry
or_constant e s t1 k1 x1 y g ty k kk x d = (λ n q. q ∙ ap (λ i. bit_or (e.value 0 % 2 ^ 64) i % 2 ^ 64) (held_constant 64 (e.int 1) y g), refl, λ calls p places f a l. refl)

pub xor_constant : SoundInWords Riscv64 (immediate (Rv rv.Xor) (Rv rv.Const) (Rv rv.Xori) Is12)
unfolding SoundInWords opened formula rv_formula row rv_row entry
xor_constant e s t1 k1 x1 y g ty k kk x d = (λ n q. q ∙ ap (λ i. bit_xor (e.value 0 % 2 ^ 64) i % 2 ^ 64) (held_constant 64 (e.int 1) y g), refl, λ calls p places f a l. refl)

pub left_constant : SoundInWords Riscv64 (immediate (Rv rv.Lsl) (Rv rv.Const) (Rv rv.Slli) (Below (pos 64)))
unfolding SoundInWords opened formula rv_formula row rv_row entry
left_constant e s t1 k1 x1 y g ty k kk x d = (λ n q. q ∙ ap (λ i. e.value 0 % 2 ^ 64 * 2 ^ i % 2 ^ 64 % 2 ^ 64) (held_constant 64 (e.int 1) y g), refl, λ calls p places f a l. refl)

pub right_constant : SoundInWords Riscv64 (immediate (Rv rv.Lsr) (Rv rv.Const) (Rv rv.Srli) (Below (pos 64)))
unfolding SoundInWords opened formula rv_formula row rv_row entry
right_constant e s t1 k1 x1 y g ty k kk x d = (λ n q. q ∙ ap (λ i. e.value 0 % 2 ^ 64 / 2 ^ i % 2 ^ 64) (held_constant 64 (e.int 1) y g), refl, λ calls p places f a l. refl)

pub signed_constant : SoundInWords Riscv64 (immediate (Rv rv.Asr) (Rv rv.Const) (Rv rv.Srai) (Below (pos 64)))
unfolding SoundInWords opened formula rv_formula row rv_row entry
signed_constant e s t1 k1 x1 y g ty k kk x d = (λ n q. q ∙ ap (λ i. residue 64 (int_div_euclid (signed 64 (e.value 0 % 2 ^ 64)) (pos (2 ^ i))) % 2 ^ 64) (held_constant 64 (e.int 1) y g), refl, λ calls p places f a l. refl)
