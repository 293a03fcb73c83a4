-- Families of constants, sums, products, quotients and bits are sound.
use Rattle.std.proofs.Common.{ℕ, ◌≤◌, refl, arith}
use Rattle.bk_ops.specs.declared.types.Target.TheVariants.{Arm}
use Rattle.bk_ops.specs.declared.family.Family.TheVariants as generic
use Rattle.bk_ops.specs.declared.family.ArmOp.TheVariants as arm
use Rattle.bk_ops.specs.Formulas.{formula, arm_formula}
use Rattle.bk_ops.specs.Table.{row, arm_row, entry}
use Rattle.bk_rule.specs.Trees.{op}
use Rattle.bk_rules_words.specs.Sound.{SoundInWords}
use Rattle.bk_rule.proofs.Opened.{opened}
use Rattle.bk_rules_words.specs.Families.{constant, nil, address, one, two, offset, widen}
use Rattle.bk_rules_words.proofs.LowBits.{low_constant, added_constant, low_add, low_sub, low_mul, low_neg, low_and, low_or, low_xor, low_complement}
use Rattle.bk_rules_words.proofs.Extended.{div_signs, mod_signs, div_zeros, mod_zeros}

-- ---- constants
pub constant_sound : (w : ℕ) → w ≤ 32 → SoundInWords Arm (constant generic.Const (generic.Arm arm.Const) w)
unfolding SoundInWords opened formula arm_formula row arm_row entry
constant_sound w h e s ty kk x d = (λ n q. low_constant w 32 (e.int 0) n h q, refl, λ calls p places f a l. refl)

pub truth_sound : SoundInWords Arm (constant generic.ConstBool (generic.Arm arm.Const) 0)
unfolding SoundInWords opened formula arm_formula row arm_row entry
truth_sound e s ty kk x d = (λ n q. low_constant 1 32 (e.int 0) n (omega arith) q, refl, λ calls p places f a l. refl)

pub nil_sound : SoundInWords Arm (nil (generic.Arm arm.Const))
unfolding SoundInWords opened formula arm_formula row arm_row entry
nil_sound e s ty k kk x d = (λ n q. q, refl, λ calls p places f a l. refl)

pub address_sound : SoundInWords Arm (address (generic.Arm arm.Addr))
unfolding SoundInWords opened formula arm_formula row arm_row entry
address_sound e s m ty k kk d = (λ n q. q, refl, λ calls p places f a l. refl)

-- ---- sums, products and bits
pub add_sound : (w v : ℕ) → w ≤ 32 → SoundInWords Arm (two generic.Add (generic.Arm arm.Add) w v)
unfolding SoundInWords opened formula arm_formula row arm_row entry
add_sound w v h e s ty k kk x d = (λ n q. low_add w 32 (e.value 0) (e.value 1) n h q, refl, λ calls p places f a l. refl)

pub sub_sound : (w v : ℕ) → w ≤ 32 → SoundInWords Arm (two generic.Sub (generic.Arm arm.Sub) w v)
unfolding SoundInWords opened formula arm_formula row arm_row entry
sub_sound w v h e s ty k kk x d = (λ n q. low_sub w 32 (e.value 0) (e.value 1) n h q, refl, λ calls p places f a l. refl)

pub mul_sound : (w v : ℕ) → w ≤ 32 → SoundInWords Arm (two generic.Mul (generic.Arm arm.Mul) w v)
unfolding SoundInWords opened formula arm_formula row arm_row entry
mul_sound w v h e s ty k kk x d = (λ n q. low_mul w 32 (e.value 0) (e.value 1) n h q, refl, λ calls p places f a l. refl)

pub and_sound : (w v : ℕ) → w ≤ 32 → SoundInWords Arm (two generic.And (generic.Arm arm.And) w v)
unfolding SoundInWords opened formula arm_formula row arm_row entry
and_sound w v h e s ty k kk x d = (λ n q. low_and w 32 (e.value 0) (e.value 1) n h q, refl, λ calls p places f a l. refl)

pub or_sound : (w v : ℕ) → w ≤ 32 → SoundInWords Arm (two generic.Or (generic.Arm arm.Orr) w v)
unfolding SoundInWords opened formula arm_formula row arm_row entry
or_sound w v h e s ty k kk x d = (λ n q. low_or w 32 (e.value 0) (e.value 1) n h q, refl, λ calls p places f a l. refl)

pub xor_sound : (w v : ℕ) → w ≤ 32 → SoundInWords Arm (two generic.Xor (generic.Arm arm.Eor) w v)
unfolding SoundInWords opened formula arm_formula row arm_row entry
xor_sound w v h e s ty k kk x d = (λ n q. low_xor w 32 (e.value 0) (e.value 1) n h q, refl, λ calls p places f a l. refl)

pub neg_sound : (w v : ℕ) → w ≤ 32 → SoundInWords Arm (one generic.Neg (generic.Arm arm.Rsb0) w v)
unfolding SoundInWords opened formula arm_formula row arm_row entry
neg_sound w v h e s ty k kk x d = (λ n q. low_neg w 32 (e.value 0) n h q, refl, λ calls p places f a l. refl)

pub com_sound : (w v : ℕ) → w ≤ 32 → SoundInWords Arm (one generic.Com (generic.Arm arm.Mvn) w v)
unfolding SoundInWords opened formula arm_formula row arm_row entry
com_sound w v h e s ty k kk x d = (λ n q. low_complement w 32 (e.value 0) n h q, refl, λ calls p places f a l. refl)

-- ---- what is the same at 32 bits
pub add_address_sound : SoundInWords Arm (two generic.AddPtr (generic.Arm arm.Add) 0 0)
unfolding SoundInWords opened formula arm_formula row arm_row entry
add_address_sound e s ty k kk x d = (λ n q. q, refl, λ calls p places f a l. refl)

pub sub_address_sound : SoundInWords Arm (two generic.SubPtr (generic.Arm arm.Sub) 0 0)
unfolding SoundInWords opened formula arm_formula row arm_row entry
sub_address_sound e s ty k kk x d = (λ n q. q, refl, λ calls p places f a l. refl)

pub high_signed_sound : SoundInWords Arm (two generic.Hmul (generic.Arm arm.Smulh) 32 0)
unfolding SoundInWords opened formula arm_formula row arm_row entry
high_signed_sound e s ty k kk x d = (λ n q. q, refl, λ calls p places f a l. refl)

pub high_unsigned_sound : SoundInWords Arm (two generic.Hmulu (generic.Arm arm.Umulh) 32 0)
unfolding SoundInWords opened formula arm_formula row arm_row entry
high_unsigned_sound e s ty k kk x d = (λ n q. q, refl, λ calls p places f a l. refl)

pub div_sound : SoundInWords Arm (two generic.Div (generic.Arm arm.Sdiv) 32 0)
unfolding SoundInWords opened formula arm_formula row arm_row entry
div_sound e s ty k kk x d = (λ n q. q, refl, λ calls p places f a l. refl)

pub div_unsigned_sound : SoundInWords Arm (two generic.Divu (generic.Arm arm.Udiv) 32 0)
unfolding SoundInWords opened formula arm_formula row arm_row entry
div_unsigned_sound e s ty k kk x d = (λ n q. q, refl, λ calls p places f a l. refl)

pub mod_sound : SoundInWords Arm (two generic.Mod (generic.Arm arm.Smod) 32 0)
unfolding SoundInWords opened formula arm_formula row arm_row entry
mod_sound e s ty k kk x d = (λ n q. q, refl, λ calls p places f a l. refl)

pub mod_unsigned_sound : SoundInWords Arm (two generic.Modu (generic.Arm arm.Umod) 32 0)
unfolding SoundInWords opened formula arm_formula row arm_row entry
mod_unsigned_sound e s ty k kk x d = (λ n q. q, refl, λ calls p places f a l. refl)

-- ---- an offset
pub offset_sound : SoundInWords Arm (offset (generic.Arm arm.Add) (generic.Arm arm.Const))
unfolding SoundInWords opened formula arm_formula row arm_row entry
offset_sound e s ty kk x d y f = (λ n q. added_constant 32 (e.value 1) y n (e.int 0) f q, refl, λ calls p places f a l. refl)

-- ---- quotients of narrow numbers
pub narrow_div : (w : ℕ) → 1 ≤ w → w ≤ 32 → SoundInWords Arm (widen (op generic.Div w 0) (op generic.Div 32 0) generic.SignExt)
unfolding SoundInWords opened formula arm_formula row arm_row entry
narrow_div w l h e s ty k kk x d a p b q = (λ n r. div_signs w 32 0 0 (e.value 0) (e.value 1) a b n l h refl p q r, refl, λ calls p places f a l. refl)

pub narrow_mod : (w : ℕ) → 1 ≤ w → w ≤ 32 → SoundInWords Arm (widen (op generic.Mod w 0) (op generic.Mod 32 0) generic.SignExt)
unfolding SoundInWords opened formula arm_formula row arm_row entry
narrow_mod w l h e s ty k kk x d a p b q = (λ n r. mod_signs w 32 (e.value 0) (e.value 1) a b n l h p q r, refl, λ calls p places f a l. refl)

pub narrow_div_unsigned : (w : ℕ) → w ≤ 32 → SoundInWords Arm (widen (op generic.Divu w 0) (op generic.Divu 32 0) generic.ZeroExt)
unfolding SoundInWords opened formula arm_formula row arm_row entry
narrow_div_unsigned w h e s ty k kk x d a p b q = (λ n r. div_zeros w 32 0 0 (e.value 0) (e.value 1) a b n h refl p q r, refl, λ calls p places f a l. refl)

pub narrow_mod_unsigned : (w : ℕ) → w ≤ 32 → SoundInWords Arm (widen (op generic.Modu w 0) (op generic.Modu 32 0) generic.ZeroExt)
unfolding SoundInWords opened formula arm_formula row arm_row entry
narrow_mod_unsigned w h e s ty k kk x d a p b q = (λ n r. mod_zeros w 32 (e.value 0) (e.value 1) a b n h p q r, refl, λ calls p places f a l. refl)
