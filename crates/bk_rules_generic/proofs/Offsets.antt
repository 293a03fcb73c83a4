-- Laws of shifts, masks and offsets.
use Rattle.std.proofs.Common.{◌≡◌, ℕ, suc, ◌+◌, ◌-◌, ◌*◌, ◌/◌, ◌%◌, ◌^◌, ◌<◌, ◌≤◌, ap, sym, ◌∙◌, arith, inl, inr, ℤ, pos, negsuc, true, false, not, if◌then◌else◌, ◌==◌, Some}
use Rattle.std.specs.Int.{int_div_euclid}
use Rattle.std.proofs.lemmas.Bool.{cases_lt}
use Rattle.std.proofs.lemmas.Bool.Decides.{nat_tests}
use Rattle.std.proofs.Math.Nat.{mod-eq_of_lt, mod-add-mod, add-mod-mod}
use Rattle.std.proofs.Math.Pow.{pow_mono}
use Rattle.bk_num.specs.Word.{signed, residue}
use Rattle.bk_num.proofs.Signs.{residue_signed}
use Rattle.bk_ops.specs.declared.types.Target.{Target}
use Rattle.bk_ops.specs.declared.types.Target.TheVariants as target
use Rattle.bk_ops.specs.Types.{word_width}
use Rattle.bk_ops.specs.Arithmetic.{zero_mask, sign_mask}
use Rattle.bk_ops.proofs.Order.{signed_low, signed_high}
use Rattle.bk_rule.specs.Expressions.{word, truth, is_true}

-- ---- shifts by nothing
pub left_none : (w x y v : ℕ) → y ≡ 0 → x < 2 ^ w → x * 2 ^ y % 2 ^ w ≡ v → x ≡ v
left_none w x y v z l e =
    let o : x ≡ x * 1 = omega arith in
    sym (mod-eq_of_lt l) ∙ (ap (λ n. n % 2 ^ w) (o ∙ ap (λ n. x * 2 ^ n) (sym z)) ∙ e)

pub right_none : (x y v : ℕ) → y ≡ 0 → x / 2 ^ y ≡ v → x ≡ v
right_none x y v z e = let o : x ≡ x / 1 = omega arith in o ∙ (ap (λ n. x / 2 ^ n) (sym z) ∙ e)

by_one : (z : ℤ) → int_div_euclid z (pos 1) ≡ z
by_one (pos n) = ap pos (omega arith)
by_one (negsuc n) = ap negsuc (omega arith)

pub signed_none : (w x y v : ℕ) → 1 ≤ w → y ≡ 0 → x < 2 ^ w → residue w (int_div_euclid (signed w x) (pos (2 ^ y))) ≡ v → x ≡ v
signed_none w x y v h z l e =
    sym (mod-eq_of_lt l) ∙ (sym (residue_signed w x h) ∙ (ap (residue w) (sym (by_one (signed w x)) ∙ ap (λ n. int_div_euclid (signed w x) (pos (2 ^ n))) (sym z)) ∙ e))

-- ---- extensions and masks
pub wider : (w u x : ℕ) → w ≤ u → x < 2 ^ w → x % 2 ^ u ≡ x
wider w u x h l = let m : 2 ^ w ≤ 2 ^ u = pow_mono h in mod-eq_of_lt (omega arith)

-- a constant that is not 0 has a number that is not 0
pub not_zero_kept : (c : ℤ) → signed 32 (residue 32 c) ≡ c →
    (if is_true (Some (truth (not (word c == word (pos 0))))) then true else false) ≡ true → residue 32 c ≡ 0 → ⊥
not_zero_kept c k d q =
    let p : c ≡ pos 0 = sym k ∙ ap (signed 32) q in
    let f : false ≡ true = rw p at d in
    cc

pub mask_of : (n x v : ℕ) → (n ≡ 0 → ⊥) → n ≡ x → zero_mask 32 x ≡ v → 4294967295 ≡ v
mask_of n x v z q e = grind (arith, nat_tests)

positive_mask : (x v : ℕ) → x < 2147483648 → sign_mask 32 x ≡ v → x / 9223372036854775808 % 4294967296 ≡ v
positive_mask x v i e = let z : x / 9223372036854775808 % 4294967296 ≡ 0 = omega arith in grind (arith, nat_tests)

negative_mask : (x v : ℕ) → 2147483648 ≤ x → x < 4294967296 → sign_mask 32 x ≡ v → 4294967295 - (4294967296 - suc x) / 9223372036854775808 % 4294967296 ≡ v
negative_mask x v i l e = let z : (4294967296 - suc x) / 9223372036854775808 % 4294967296 ≡ 0 = omega arith in grind (arith, nat_tests)

-- the sign of a constant of 32 bits
pub sign_of : (c : ℤ) (x v : ℕ) → signed 32 (residue 32 c) ≡ c → residue 32 c ≡ x → x < 2 ^ 32 → sign_mask 32 x ≡ v →
    residue 32 (int_div_euclid c (pos (2 ^ 63))) ≡ v
sign_of c x v k q l e =
    let s : signed 32 x ≡ c = ap (signed 32) (sym q) ∙ k in
    elim (cases_lt x 2147483648) [
      | inl i ↦ ap (λ z. residue 32 (int_div_euclid z (pos 9223372036854775808))) (sym s ∙ signed_low 32 x (omega arith) i) ∙ positive_mask x v i e
      | inr i ↦ ap (λ z. residue 32 (int_div_euclid z (pos 9223372036854775808))) (sym s ∙ signed_high 32 x i l) ∙ negative_mask x v i l e
    ]

-- ---- offsets
pub word_at_most : (t : Target) → word_width t ≤ 64
word_at_most target.Arm = omega arith
word_at_most target.Riscv64 = omega arith

pub no_offset_law : (w x v : ℕ) → x < 2 ^ w → (x + 0 % 2 ^ w) % 2 ^ w ≡ v → x ≡ v
no_offset_law w x v l e =
    let o : x ≡ x + 0 = omega arith in
    sym (mod-eq_of_lt l) ∙ (ap (λ n. n % 2 ^ w) o ∙ (sym (add-mod-mod x 0 (2 ^ w)) ∙ e))

pub offsets_law : (w x y n a b v : ℕ) → x < 2 ^ w → n ≡ (a + b) % 2 ^ w → (x + b) % 2 ^ w ≡ y → (y + a) % 2 ^ w ≡ v → (x % 2 ^ w + n) % 2 ^ w ≡ v
offsets_law w x y n a b v l q f e =
    let o : x + (a + b) ≡ x + b + a = omega arith in
    rw (mod-eq_of_lt l, q) (add-mod-mod x (a + b) (2 ^ w) ∙ (ap (λ n. n % 2 ^ w) o ∙ (sym (mod-add-mod (x + b) (2 ^ w) a) ∙ (ap (λ n. (n + a) % 2 ^ w) f ∙ e))))

pub one_offset_law : (w x y n v : ℕ) → x < 2 ^ w → n ≡ y → (x + y) % 2 ^ w ≡ v → (x % 2 ^ w + n) % 2 ^ w ≡ v
one_offset_law w x y n v l q e = rw (mod-eq_of_lt l, q) e
