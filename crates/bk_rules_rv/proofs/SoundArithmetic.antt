-- Families of constants, sums, products, quotients and bits are sound.
use Rattle.std.proofs.Common.{◌≡◌, ℕ, ◌-◌, ◌%◌, ◌^◌, ◌≤◌, refl, sym, ◌∙◌, arith, negsuc}
use Rattle.bk_ops.specs.declared.types.Target.TheVariants.{Riscv64}
use Rattle.bk_ops.specs.declared.family.Family.TheVariants as generic
use Rattle.bk_ops.specs.declared.family.Family.TheVariants.{Rv}
use Rattle.bk_ops.specs.declared.family.RvOp.TheVariants as rv
use Rattle.bk_ops.specs.Formulas.{formula, rv_formula}
use Rattle.bk_ops.specs.Table.{row, rv_row, entry}
use Rattle.bk_ops.proofs.Cut.{ones_64, ones_again}
use Rattle.bk_rule.proofs.Opened.{opened}
use Rattle.bk_rules_words.specs.Families.{constant, nil, address, one, two, one_with, offset, high, widen}
use Rattle.bk_rule.specs.Trees.{op}
use Rattle.bk_rules_words.specs.Sound.{SoundInWords}
use Rattle.bk_rules_words.proofs.LowBits.{low_constant, added_constant, low_add, low_sub, low_mul, low_neg, low_and, low_or, low_xor}
use Rattle.bk_rules_words.proofs.Extended.{div_signs, mod_signs, div_zeros, mod_zeros}
use Rattle.bk_rules_rv.proofs.Bits.{low_com}
use Rattle.bk_rules_rv.proofs.Products.{high_signs, high_zeros}

-- ---- constants
pub constant_sound : (w : ℕ) → w ≤ 64 → SoundInWords Riscv64 (constant generic.Const (Rv rv.Const) w)
unfolding SoundInWords opened formula rv_formula row rv_row entry
constant_sound w h e s ty kk x d = (λ n q. low_constant w 64 (e.int 0) n h q, refl, λ calls p places f a l. refl)

pub truth_sound : SoundInWords Riscv64 (constant generic.ConstBool (Rv rv.Const) 0)
unfolding SoundInWords opened formula rv_formula row rv_row entry
truth_sound e s ty kk x d = (λ n q. low_constant 1 64 (e.int 0) n (omega arith) q, refl, λ calls p places f a l. refl)

pub nil_sound : SoundInWords Riscv64 (nil (Rv rv.Const))
unfolding SoundInWords opened formula rv_formula row rv_row entry
nil_sound e s ty k kk x d = (λ n q. q, refl, λ calls p places f a l. refl)

pub address_sound : SoundInWords Riscv64 (address (Rv rv.Addr))
unfolding SoundInWords opened formula rv_formula row rv_row entry
address_sound e s m ty k kk d = (λ n q. q, refl, λ calls p places f a l. refl)

-- ---- sums, products and bits
pub add_sound : (w v : ℕ) → w ≤ 64 → SoundInWords Riscv64 (two generic.Add (Rv rv.Add) w v)
unfolding SoundInWords opened formula rv_formula row rv_row entry
add_sound w v h e s ty k kk x d = (λ n q. low_add w 64 (e.value 0) (e.value 1) n h q, refl, λ calls p places f a l. refl)

pub sub_sound : (w v : ℕ) → w ≤ 64 → SoundInWords Riscv64 (two generic.Sub (Rv rv.Sub) w v)
unfolding SoundInWords opened formula rv_formula row rv_row entry
sub_sound w v h e s ty k kk x d = (λ n q. low_sub w 64 (e.value 0) (e.value 1) n h q, refl, λ calls p places f a l. refl)

pub mul_sound : (w v : ℕ) → w ≤ 64 → SoundInWords Riscv64 (two generic.Mul (Rv rv.Mul) w v)
unfolding SoundInWords opened formula rv_formula row rv_row entry
mul_sound w v h e s ty k kk x d = (λ n q. low_mul w 64 (e.value 0) (e.value 1) n h q, refl, λ calls p places f a l. refl)

pub and_sound : (w v : ℕ) → w ≤ 64 → SoundInWords Riscv64 (two generic.And (Rv rv.And) w v)
unfolding SoundInWords opened formula rv_formula row rv_row entry
and_sound w v h e s ty k kk x d = (λ n q. low_and w 64 (e.value 0) (e.value 1) n h q, refl, λ calls p places f a l. refl)

pub or_sound : (w v : ℕ) → w ≤ 64 → SoundInWords Riscv64 (two generic.Or (Rv rv.Or) w v)
unfolding SoundInWords opened formula rv_formula row rv_row entry
or_sound w v h e s ty k kk x d = (λ n q. low_or w 64 (e.value 0) (e.value 1) n h q, refl, λ calls p places f a l. refl)

pub xor_sound : (w v : ℕ) → w ≤ 64 → SoundInWords Riscv64 (two generic.Xor (Rv rv.Xor) w v)
unfolding SoundInWords opened formula rv_formula row rv_row entry
xor_sound w v h e s ty k kk x d = (λ n q. low_xor w 64 (e.value 0) (e.value 1) n h q, refl, λ calls p places f a l. refl)

pub neg_sound : (w v : ℕ) → w ≤ 64 → SoundInWords Riscv64 (one generic.Neg (Rv rv.Neg) w v)
unfolding SoundInWords opened formula rv_formula row rv_row entry
neg_sound w v h e s ty k kk x d = (λ n q. low_neg w 64 (e.value 0) n h q, refl, λ calls p places f a l. refl)

pub com_sound : (w : ℕ) → w ≤ 64 → SoundInWords Riscv64 (one_with generic.Com (Rv rv.Xori) (negsuc 0) w)
unfolding SoundInWords opened formula rv_formula row rv_row entry
com_sound w h e s ty k kk x d = (λ n q. low_com w (e.value 0) n h q, refl, λ calls p places f a l. refl)

-- ---- what is the same at 64 bits
pub add_address_sound : SoundInWords Riscv64 (two generic.AddPtr (Rv rv.Add) 0 0)
unfolding SoundInWords opened formula rv_formula row rv_row entry
add_address_sound e s ty k kk x d = (λ n q. q, refl, λ calls p places f a l. refl)

pub sub_address_sound : SoundInWords Riscv64 (two generic.SubPtr (Rv rv.Sub) 0 0)
unfolding SoundInWords opened formula rv_formula row rv_row entry
sub_address_sound e s ty k kk x d = (λ n q. q, refl, λ calls p places f a l. refl)

pub high_signed_sound : SoundInWords Riscv64 (two generic.Hmul (Rv rv.Mulh) 64 0)
unfolding SoundInWords opened formula rv_formula row rv_row entry
high_signed_sound e s ty k kk x d = (λ n q. q, refl, λ calls p places f a l. refl)

pub high_unsigned_sound : SoundInWords Riscv64 (two generic.Hmulu (Rv rv.Mulhu) 64 0)
unfolding SoundInWords opened formula rv_formula row rv_row entry
high_unsigned_sound e s ty k kk x d = (λ n q. q, refl, λ calls p places f a l. refl)

pub div_sound : SoundInWords Riscv64 (two generic.Div (Rv rv.Div) 64 0)
unfolding SoundInWords opened formula rv_formula row rv_row entry
div_sound e s ty k kk x d = (λ n q. q, refl, λ calls p places f a l. refl)

pub div_unsigned_sound : SoundInWords Riscv64 (two generic.Divu (Rv rv.Divu) 64 0)
unfolding SoundInWords opened formula rv_formula row rv_row entry
div_unsigned_sound e s ty k kk x d = (λ n q. q, refl, λ calls p places f a l. refl)

pub rem_sound : SoundInWords Riscv64 (two generic.Mod (Rv rv.Rem) 64 0)
unfolding SoundInWords opened formula rv_formula row rv_row entry
rem_sound e s ty k kk x d = (λ n q. q, refl, λ calls p places f a l. refl)

pub rem_unsigned_sound : SoundInWords Riscv64 (two generic.Modu (Rv rv.Remu) 64 0)
unfolding SoundInWords opened formula rv_formula row rv_row entry
rem_unsigned_sound e s ty k kk x d = (λ n q. q, refl, λ calls p places f a l. refl)

-- ---- an offset
pub offset_sound : SoundInWords Riscv64 (offset (Rv rv.Add) (Rv rv.Const))
unfolding SoundInWords opened formula rv_formula row rv_row entry
offset_sound e s ty kk x d y f = (λ n q. added_constant 64 (e.value 1) y n (e.int 0) f q, refl, λ calls p places f a l. refl)

-- ---- quotients of narrow numbers
over_zero_low : (w : ℕ) → w ≤ 64 → 18446744073709551615 % 2 ^ w ≡ (2 ^ w - 1) % 2 ^ w
over_zero_low w h = ones_64 w h ∙ sym (ones_again w)

pub narrow_div : (w : ℕ) → 1 ≤ w → w ≤ 64 → SoundInWords Riscv64 (widen (op generic.Div w 0) (op generic.Div 64 0) generic.SignExt)
unfolding SoundInWords opened formula rv_formula row rv_row entry
narrow_div w l h e s ty k kk x d a p b q = (λ n r. div_signs w 64 18446744073709551615 (2 ^ w - 1) (e.value 0) (e.value 1) a b n l h (over_zero_low w h) p q r, refl, λ calls p places f a l. refl)

pub narrow_mod : (w : ℕ) → 1 ≤ w → w ≤ 64 → SoundInWords Riscv64 (widen (op generic.Mod w 0) (op generic.Mod 64 0) generic.SignExt)
unfolding SoundInWords opened formula rv_formula row rv_row entry
narrow_mod w l h e s ty k kk x d a p b q = (λ n r. mod_signs w 64 (e.value 0) (e.value 1) a b n l h p q r, refl, λ calls p places f a l. refl)

pub narrow_div_unsigned : (w : ℕ) → 1 ≤ w → w ≤ 64 → SoundInWords Riscv64 (widen (op generic.Divu w 0) (op generic.Divu 64 0) generic.ZeroExt)
unfolding SoundInWords opened formula rv_formula row rv_row entry
narrow_div_unsigned w l h e s ty k kk x d a p b q = (λ n r. div_zeros w 64 18446744073709551615 (2 ^ w - 1) (e.value 0) (e.value 1) a b n h (over_zero_low w h) p q r, refl, λ calls p places f a l. refl)

pub narrow_mod_unsigned : (w : ℕ) → 1 ≤ w → w ≤ 64 → SoundInWords Riscv64 (widen (op generic.Modu w 0) (op generic.Modu 64 0) generic.ZeroExt)
unfolding SoundInWords opened formula rv_formula row rv_row entry
narrow_mod_unsigned w l h e s ty k kk x d a p b q = (λ n r. mod_zeros w 64 (e.value 0) (e.value 1) a b n h p q r, refl, λ calls p places f a l. refl)

-- ---- the high half of a narrow product
pub half_signed_sound : SoundInWords Riscv64 (high generic.Hmul generic.SignExt (Rv rv.Srai))
unfolding SoundInWords opened formula rv_formula row rv_row entry
half_signed_sound e s ty k kk x d a p b q c r = (λ n i. high_signs (e.value 0) (e.value 1) a b c n p q r i, refl, λ calls p places f a l. refl)

pub half_unsigned_sound : SoundInWords Riscv64 (high generic.Hmulu generic.ZeroExt (Rv rv.Srli))
unfolding SoundInWords opened formula rv_formula row rv_row entry
half_unsigned_sound e s ty k kk x d a p b q c r = (λ n i. high_zeros (e.value 0) (e.value 1) a b c n p q r i, refl, λ calls p places f a l. refl)
