-- Laws of extensions, truncations and choices of 64 bits, from halves.
use Rattle.std.proofs.Common.{◌≡◌, ℕ, suc, ◌+◌, ◌-◌, ◌*◌, ◌/◌, ◌%◌, ◌^◌, ◌<◌, ◌≤◌, ap, sym, ◌∙◌, arith, inl, inr, Bool, true, false, if◌then◌else◌, ◌==◌, ℤ, pos, negsuc, IsTrue}
use Rattle.std.proofs.lemmas.Bool.{cases_lt, lt-ltb, ltb-true}
use Rattle.std.proofs.lemmas.Bool.Decides.{nat_tests}
use Rattle.std.proofs.Math.Nat.{mod-eq_of_lt, mod-mod}
use Rattle.std.proofs.Math.Pow.{pow_mono}
use Rattle.bk_num.specs.Word.{signed, residue, fits_signed}
use Rattle.bk_num.proofs.Powers.{mod_mod}
use Rattle.bk_num.proofs.Signs.{signed_residue, signed_fits}
use Rattle.bk_ops.specs.Arithmetic.{sign_mask}
use Rattle.bk_ops.proofs.Cut.{residue_again}
use Rattle.bk_ops.proofs.Order.{signed_low, signed_high}
use Rattle.bk_rules_dec64.proofs.Halves.{nothing}

-- ---- extensions
plus : (x : ℕ) → x < 2147483648 → x ≡ x % 18446744073709551616
plus x i = omega arith

minus : (x : ℕ) → 2147483648 ≤ x → x < 4294967296 → 4294967295 % 4294967296 * 4294967296 + x ≡ 18446744073709551615 - (4294967296 - suc x) % 18446744073709551616
minus x i l = omega arith

signed_halves : (x : ℕ) → x < 2 ^ 32 → sign_mask 32 x % 2 ^ 32 * 2 ^ 32 + x ≡ residue 64 (signed 32 x)
signed_halves x l =
    elim (cases_lt x 2147483648) [
      | inl i ↦
          (let t : sign_mask 32 x ≡ 0 = grind (arith, nat_tests) in
          ap (λ n. n % 2 ^ 32 * 2 ^ 32 + x) t ∙ (nothing x ∙ (plus x i ∙ ap (residue 64) (sym (signed_low 32 x (omega arith) i)))))
      | inr i ↦
          (let t : sign_mask 32 x ≡ 4294967295 = grind (arith, nat_tests) in
          ap (λ n. n % 2 ^ 32 * 2 ^ 32 + x) t ∙ (minus x i l ∙ ap (residue 64) (sym (signed_high 32 x i l))))
    ]

pub sign_above_law : (a x v : ℕ) → a ≡ x → x < 2 ^ 32 → residue 64 (signed 32 x) ≡ v → sign_mask 32 (a % 2 ^ 32) % 2 ^ 32 * 2 ^ 32 + a % 2 ^ 32 ≡ v
sign_above_law a x v p l e = ap (λ n. sign_mask 32 n % 2 ^ 32 * 2 ^ 32 + n) (ap (λ n. n % 2 ^ 32) p ∙ mod-eq_of_lt l) ∙ (signed_halves x l ∙ e)

pub zero_above_law : (a x v : ℕ) → a ≡ x → x < 2 ^ 32 → x ≡ v → 0 % 2 ^ 32 * 2 ^ 32 + a % 2 ^ 32 ≡ v
zero_above_law a x v p l e = nothing (a % 2 ^ 32) ∙ (ap (λ n. n % 2 ^ 32) p ∙ (mod-eq_of_lt l ∙ e))

wider_fits : (w : ℕ) (z : ℤ) → 1 ≤ w → w ≤ 32 → IsTrue (fits_signed w z) → IsTrue (fits_signed 32 z)
wider_fits w (pos n) l h f =
    let m : 2 ^ (w - 1) ≤ 2 ^ 31 = pow_mono {j = 31} (omega arith) in
    let b : n < 2 ^ (w - 1) = ltb-true n (2 ^ (w - 1)) f in
    lt-ltb n (2 ^ 31) (omega arith)
wider_fits w (negsuc n) l h f =
    let m : 2 ^ (w - 1) ≤ 2 ^ 31 = pow_mono {j = 31} (omega arith) in
    let b : n < 2 ^ (w - 1) = ltb-true n (2 ^ (w - 1)) f in
    lt-ltb n (2 ^ 31) (omega arith)

pub extend_signed_law : (w a x v : ℕ) → 1 ≤ w → w ≤ 32 → a ≡ x → x < 2 ^ w → residue 64 (signed w x) ≡ v →
    residue 64 (signed 32 (residue 32 (signed w (a % 2 ^ w)) % 2 ^ 32)) ≡ v
extend_signed_law w a x v l h p b e =
    ap (λ n. residue 64 (signed 32 (residue 32 (signed w n) % 2 ^ 32))) (ap (λ n. n % 2 ^ w) p ∙ mod-eq_of_lt b) ∙
    (ap (λ n. residue 64 (signed 32 n)) (residue_again 32 (signed w x)) ∙
    (ap (residue 64) (signed_residue 32 (signed w x) (omega arith) (wider_fits w (signed w x) l h (signed_fits w x l))) ∙ e))

-- a number of w bits is one of 32 bits
pub short_is : (w a x : ℕ) → w ≤ 32 → a ≡ x → x < 2 ^ w → a % 2 ^ w % 2 ^ 32 ≡ x
short_is w a x h p b =
    let m : 2 ^ w ≤ 2 ^ 32 = pow_mono h in
    ap (λ n. n % 2 ^ 32) (ap (λ n. n % 2 ^ w) p ∙ mod-eq_of_lt b) ∙ mod-eq_of_lt (omega arith)

-- ---- truncations
pub truncate_word_law : (a x v : ℕ) → a ≡ x → x < 2 ^ 64 → x % 2 ^ 32 ≡ v → a % 2 ^ 64 % 2 ^ 32 ≡ v
truncate_word_law a x v p l e = ap (λ n. n % 2 ^ 32) (ap (λ n. n % 2 ^ 64) p ∙ mod-eq_of_lt l) ∙ e

pub truncate_law : (w a x v : ℕ) → w ≤ 32 → a ≡ x → x < 2 ^ 64 → x % 2 ^ w ≡ v → a % 2 ^ 64 % 2 ^ 32 % 2 ^ 32 % 2 ^ w ≡ v
truncate_law w a x v h p l e =
    ap (λ n. n % 2 ^ 32 % 2 ^ 32 % 2 ^ w) (ap (λ n. n % 2 ^ 64) p ∙ mod-eq_of_lt l) ∙
    (ap (λ n. n % 2 ^ w) (mod-mod x (2 ^ 32)) ∙ (mod_mod x w 32 h ∙ e))

-- ---- choices
abbrev pub choose : ℕ → ℕ → Bool → ℕ
choose x y t = (if t then y / 2 ^ 32 % 2 ^ 64 else x / 2 ^ 32 % 2 ^ 64) % 2 ^ 32 * 2 ^ 32 + (if t then y % 2 ^ 32 % 2 ^ 64 else x % 2 ^ 32 % 2 ^ 64) % 2 ^ 32

halves_again : (x : ℕ) → x < 18446744073709551616 → x / 4294967296 % 18446744073709551616 % 4294967296 * 4294967296 + x % 4294967296 % 18446744073709551616 % 4294967296 ≡ x
halves_again x l = omega arith

chosen_is : (x y : ℕ) (t : Bool) → x < 2 ^ 64 → y < 2 ^ 64 → choose x y t ≡ (if t then y else x)
chosen_is x y true l m = halves_again y m
chosen_is x y false l m = halves_again x l

pub choose_law : (a b c x y k v : ℕ) → a ≡ x → b ≡ y → c ≡ k → x < 2 ^ 64 → y < 2 ^ 64 → k < 2 ^ 1 → (if k == 0 then y else x) ≡ v →
    choose (a % 2 ^ 64) (b % 2 ^ 64) (c % 2 ^ 1 == 0) ≡ v
choose_law a b c x y k v p q r l m n e =
    ap (λ i. choose i (b % 2 ^ 64) (c % 2 ^ 1 == 0)) (ap (λ i. i % 2 ^ 64) p ∙ mod-eq_of_lt l) ∙
    (ap (λ i. choose x i (c % 2 ^ 1 == 0)) (ap (λ i. i % 2 ^ 64) q ∙ mod-eq_of_lt m) ∙
    (ap (λ i. choose x y (i == 0)) (ap (λ i. i % 2 ^ 1) r ∙ mod-eq_of_lt n) ∙ (chosen_is x y (k == 0) l m ∙ e)))
