-- Laws of products of two numbers of 32 bits, of shifts left by which the high bits fall away, and of rotations.
use Rattle.std.proofs.Common.{◌≡◌, ℕ, zero, suc, ◌+◌, ◌-◌, ◌*◌, ◌/◌, ◌%◌, ◌^◌, ◌<◌, ◌≤◌, refl, ap, sym, ◌∙◌, arith, inl, inr, ℤ, pos, negsuc, ◌*ℤ◌, unsigned_abs, Bool, true, false, if◌then◌else◌, ◌==◌, not, IsTrue, FitsSigned, w64, bit_and, bit_or}
use Rattle.std.specs.Int.{int_div_euclid}
use Rattle.std.specs.Int.Bits.{or_self}
use Rattle.std.proofs.lemmas.Bool.{cases_lt, lt-ltb, ltb-true}
use Rattle.std.proofs.lemmas.Int.{fits_signed_mul}
use Rattle.std.proofs.lemmas.Nat.{pow_pos, mod_below, and_mask, or_shifted, div_below, div-mul-add, mod-mul-add, mul-le}
use Rattle.std.proofs.Math.Nat.{mod-eq_of_lt, mod-mod, div-add-mod', mul-div_cancel, mul-lt-mul_of_pos_right}
use Rattle.bk_num.specs.Word.{signed, residue, fits_signed}
use Rattle.bk_num.proofs.Powers.{mod_mod, pow_split}
use Rattle.bk_num.proofs.Signs.{signed_residue, signed_fits}
use Rattle.bk_ops.specs.Arithmetic.{as_bit, sign_mask, zero_mask}
use Rattle.bk_ops.proofs.Cut.{residue_again}
use Rattle.bk_ops.proofs.LowBits.{residue-mul}
use Rattle.bk_ops.proofs.Order.{signed_low, signed_high}
use Rattle.bk_rules_words.proofs.LowBits.{low, low_constant, low_neg, low_or, low_left}
use Rattle.bk_rules_words.proofs.Extended.{zeros, signs, sign_alone}

-- ---- products
size : (w : ℕ) (z : ℤ) → IsTrue (fits_signed w z) → unsigned_abs z ≤ 2 ^ (w - 1)
size w (pos n) f = let b : n < 2 ^ (w - 1) = ltb-true n (2 ^ (w - 1)) f in omega arith
size w (negsuc n) f = let b : n < 2 ^ (w - 1) = ltb-true n (2 ^ (w - 1)) f in omega arith

fits_64 : (z : ℤ) → FitsSigned w64 z → IsTrue (fits_signed 64 z)
fits_64 (pos n) f = lt-ltb n (2 ^ 63) (omega (arith, f.sfits))
fits_64 (negsuc n) f = lt-ltb n (2 ^ 63) (omega (arith, f.sfits))

product_fits : (x y : ℕ) → IsTrue (fits_signed 64 (signed 32 x *ℤ signed 32 y))
product_fits x y =
    fits_64 (signed 32 x *ℤ signed 32 y)
    (fits_signed_mul w64 (signed 32 x) (signed 32 y) (2 ^ 31) (2 ^ 31) (size 32 (signed 32 x) (signed_fits 32 x (omega arith))) (size 32 (signed 32 y) (signed_fits 32 y (omega arith))) (omega arith))

pub high_signs : (x y a b p n : ℕ) → a % 2 ^ 64 ≡ residue 64 (signed 32 (x % 2 ^ 32)) % 2 ^ 64 → b % 2 ^ 64 ≡ residue 64 (signed 32 (y % 2 ^ 32)) % 2 ^ 64 →
    p % 2 ^ 64 ≡ a % 2 ^ 64 * (b % 2 ^ 64) % 2 ^ 64 % 2 ^ 64 → n % 2 ^ 64 ≡ residue 64 (int_div_euclid (signed 64 (p % 2 ^ 64)) (pos (2 ^ 32))) % 2 ^ 64 →
    n % 2 ^ 32 ≡ residue 32 (int_div_euclid (signed 32 (x % 2 ^ 32) *ℤ signed 32 (y % 2 ^ 32)) (pos (2 ^ 32))) % 2 ^ 32
high_signs x y a b p n f g r q =
    let sx : ℤ = signed 32 (x % 2 ^ 32) in
    let sy : ℤ = signed 32 (y % 2 ^ 32) in
    let m : p % 2 ^ 64 ≡ residue 64 (sx *ℤ sy) =
    r ∙ (mod-mod (a % 2 ^ 64 * (b % 2 ^ 64)) (2 ^ 64) ∙
    (ap (λ k. k * (b % 2 ^ 64) % 2 ^ 64) (f ∙ residue_again 64 sx) ∙ (ap (λ k. residue 64 sx * k % 2 ^ 64) (g ∙ residue_again 64 sy) ∙ sym (residue-mul 64 sx sy)))) in
    let s : signed 64 (p % 2 ^ 64) ≡ sx *ℤ sy = ap (signed 64) m ∙ signed_residue 64 (sx *ℤ sy) (omega arith) (product_fits (x % 2 ^ 32) (y % 2 ^ 32)) in
    low_constant 32 64 (int_div_euclid (sx *ℤ sy) (pos (2 ^ 32))) n (omega arith) (q ∙ ap (λ (z : ℤ). residue 64 (int_div_euclid z (pos (2 ^ 32))) % 2 ^ 64) s)

small_product : (x y : ℕ) → x < 2 ^ 32 → y < 2 ^ 32 → x * y < 2 ^ 64
small_product x y l m = let b : x * y ≤ 4294967295 * 4294967295 = mul-le x y 4294967295 4294967295 (omega arith) (omega arith) in omega arith

pub high_zeros : (x y a b p n : ℕ) → a % 2 ^ 64 ≡ x % 2 ^ 32 % 2 ^ 64 → b % 2 ^ 64 ≡ y % 2 ^ 32 % 2 ^ 64 →
    p % 2 ^ 64 ≡ a % 2 ^ 64 * (b % 2 ^ 64) % 2 ^ 64 % 2 ^ 64 → n % 2 ^ 64 ≡ p % 2 ^ 64 / 2 ^ 32 % 2 ^ 64 →
    n % 2 ^ 32 ≡ x % 2 ^ 32 % 2 ^ 32 * (y % 2 ^ 32 % 2 ^ 32) / 2 ^ 32 % 2 ^ 32
high_zeros x y a b p n f g r q =
    let m : p % 2 ^ 64 ≡ x % 2 ^ 32 * (y % 2 ^ 32) =
    r ∙ (mod-mod (a % 2 ^ 64 * (b % 2 ^ 64)) (2 ^ 64) ∙
    (ap (λ k. k * (b % 2 ^ 64) % 2 ^ 64) (zeros 32 64 x a (omega arith) f) ∙
    (ap (λ k. x % 2 ^ 32 * k % 2 ^ 64) (zeros 32 64 y b (omega arith) g) ∙
    mod-eq_of_lt (small_product (x % 2 ^ 32) (y % 2 ^ 32) (mod_below x (2 ^ 32) (pow_pos 32)) (mod_below y (2 ^ 32) (pow_pos 32)))))) in
    low 32 64 n _ (omega arith) q ∙
    (ap (λ k. k / 2 ^ 32 % 2 ^ 32) m ∙
    (ap (λ k. k * (y % 2 ^ 32) / 2 ^ 32 % 2 ^ 32) (sym (mod-mod x (2 ^ 32))) ∙ ap (λ k. x % 2 ^ 32 % 2 ^ 32 * k / 2 ^ 32 % 2 ^ 32) (sym (mod-mod y (2 ^ 32)))))

-- ---- a number moved to the top of a word and back
-- what is left of a product with t in numbers below s * t
pub scaled : (x s t : ℕ) → 0 < s → 0 < t → x * t % (s * t) ≡ x % s * t
scaled x s t p q =
    let r : x % s < s = mod_below x s p in
    let m : x % s * t < s * t = mul-lt-mul_of_pos_right r q in
    let e : x * t ≡ x / s * (s * t) + x % s * t = omega (arith, ap (λ n. n * t) (div-add-mod' x s)) in
    ap (λ n. n % (s * t)) e ∙ mod-mul-add (x / s) (s * t) (x % s * t) m

-- a word shifted left by all but w bits
pub raised : (w x z : ℕ) → w ≤ 64 → z % 2 ^ 64 ≡ x % 2 ^ 64 * 2 ^ (64 - w) % 2 ^ 64 % 2 ^ 64 → z % 2 ^ 64 ≡ x % 2 ^ w * 2 ^ (64 - w)
raised w x z h e =
    let c : w ≡ 64 - (64 - w) = omega arith in
    let p : 2 ^ 64 ≡ 2 ^ w * 2 ^ (64 - w) = pow_split (64 - w) 64 (omega arith) ∙ ap (λ k. 2 ^ k * 2 ^ (64 - w)) (sym c) in
    e ∙ (mod-mod (x % 2 ^ 64 * 2 ^ (64 - w)) (2 ^ 64) ∙
    (ap (λ k. x % 2 ^ 64 * 2 ^ (64 - w) % k) p ∙
    (scaled (x % 2 ^ 64) (2 ^ w) (2 ^ (64 - w)) (pow_pos w) (pow_pos (64 - w)) ∙ ap (λ k. k * 2 ^ (64 - w)) (mod_mod x w 64 h))))

halves : (w : ℕ) → 1 ≤ w → w ≤ 64 → 2 ^ 63 ≡ 2 ^ (w - 1) * 2 ^ (64 - w)
halves w l h =
    let c : 63 - (64 - w) ≡ w - 1 = omega arith in
    pow_split (64 - w) 63 (omega arith) ∙ ap (λ k. 2 ^ k * 2 ^ (64 - w)) c

wholes : (w : ℕ) → w ≤ 64 → 2 ^ 64 ≡ 2 ^ w * 2 ^ (64 - w)
wholes w h =
    let c : 64 - (64 - w) ≡ w = omega arith in
    pow_split (64 - w) 64 (omega arith) ∙ ap (λ k. 2 ^ k * 2 ^ (64 - w)) c

above : (x a t : ℕ) → a ≤ x → a * t ≤ x * t
above x a t l = mul-le a t x t l (omega arith)

below : (x a t : ℕ) → x < a → 0 < t → x * t < a * t
below x a t l p = mul-lt-mul_of_pos_right l p

complements : (m t x : ℕ) → x < m → 0 < t → m * t - suc (x * t) ≡ (m - suc x) * t + (t - 1)
complements m t x l p = let q : m ≡ m - suc x + suc x = omega arith in omega (arith, ap (λ i. i * t) q)

-- the number that the top w bits spell
pub lowered : (w x : ℕ) → 1 ≤ w → w ≤ 64 → x < 2 ^ w → int_div_euclid (signed 64 (x * 2 ^ (64 - w))) (pos (2 ^ (64 - w))) ≡ signed w x
lowered w x l h b =
    let t : 0 < 2 ^ (64 - w) = pow_pos (64 - w) in
    elim (cases_lt x (2 ^ (w - 1))) [
      | inl i ↦
          (let s : signed 64 (x * 2 ^ (64 - w)) ≡ pos (x * 2 ^ (64 - w)) =
          signed_low 64 (x * 2 ^ (64 - w)) (omega arith) (omega (arith, halves w l h, below x (2 ^ (w - 1)) (2 ^ (64 - w)) i t)) in
          ap (λ (z : ℤ). int_div_euclid z (pos (2 ^ (64 - w)))) s ∙ (ap pos (mul-div_cancel x t) ∙ sym (signed_low w x l i)))
      | inr i ↦
          (let s : signed 64 (x * 2 ^ (64 - w)) ≡ negsuc (2 ^ 64 - suc (x * 2 ^ (64 - w))) =
          signed_high 64 (x * 2 ^ (64 - w)) (omega (arith, halves w l h, above x (2 ^ (w - 1)) (2 ^ (64 - w)) i)) (omega (arith, wholes w h, below x (2 ^ w) (2 ^ (64 - w)) b t)) in
          let q : 2 ^ 64 - suc (x * 2 ^ (64 - w)) ≡ (2 ^ w - suc x) * 2 ^ (64 - w) + (2 ^ (64 - w) - 1) =
          ap (λ k. k - suc (x * 2 ^ (64 - w))) (wholes w h) ∙ complements (2 ^ w) (2 ^ (64 - w)) x b t in
          ap (λ (z : ℤ). int_div_euclid z (pos (2 ^ (64 - w)))) s ∙
          (ap negsuc (ap (λ k. k / 2 ^ (64 - w)) q ∙ div-mul-add (2 ^ w - suc x) (2 ^ (64 - w)) (2 ^ (64 - w) - 1) (omega arith)) ∙ sym (signed_high w x i b)))
    ]

count_is : (w : ℕ) → (64 - w) % 2 ^ 64 ≡ 64 - w
count_is w = omega arith

pub extend_signs : (w v x z n : ℕ) → 1 ≤ w → w ≤ 64 → v ≤ 64 → z % 2 ^ 64 ≡ x % 2 ^ 64 * 2 ^ ((64 - w) % 2 ^ 64) % 2 ^ 64 % 2 ^ 64 →
    n % 2 ^ 64 ≡ residue 64 (int_div_euclid (signed 64 (z % 2 ^ 64)) (pos (2 ^ ((64 - w) % 2 ^ 64)))) % 2 ^ 64 →
    n % 2 ^ v ≡ residue v (signed w (x % 2 ^ w)) % 2 ^ v
extend_signs w v x z n l h g p q =
    let r : z % 2 ^ 64 ≡ x % 2 ^ w * 2 ^ (64 - w) = raised w x z h (p ∙ ap (λ k. x % 2 ^ 64 * 2 ^ k % 2 ^ 64 % 2 ^ 64) (count_is w)) in
    low_constant v 64 (signed w (x % 2 ^ w)) n g
    (q ∙ (ap (λ k. residue 64 (int_div_euclid (signed 64 (z % 2 ^ 64)) (pos (2 ^ k))) % 2 ^ 64) (count_is w) ∙
    (ap (λ k. residue 64 (int_div_euclid (signed 64 k) (pos (2 ^ (64 - w)))) % 2 ^ 64) r ∙
    ap (λ (y : ℤ). residue 64 y % 2 ^ 64) (lowered w (x % 2 ^ w) l h (mod_below x (2 ^ w) (pow_pos w))))))

pub extend_zeros : (w v x z n : ℕ) → w ≤ 64 → v ≤ 64 → z % 2 ^ 64 ≡ x % 2 ^ 64 * 2 ^ ((64 - w) % 2 ^ 64) % 2 ^ 64 % 2 ^ 64 →
    n % 2 ^ 64 ≡ z % 2 ^ 64 / 2 ^ ((64 - w) % 2 ^ 64) % 2 ^ 64 → n % 2 ^ v ≡ x % 2 ^ w % 2 ^ v
extend_zeros w v x z n h g p q =
    let r : z % 2 ^ 64 ≡ x % 2 ^ w * 2 ^ (64 - w) = raised w x z h (p ∙ ap (λ k. x % 2 ^ 64 * 2 ^ k % 2 ^ 64 % 2 ^ 64) (count_is w)) in
    low v 64 n (x % 2 ^ w) g
    (q ∙ (ap (λ k. z % 2 ^ 64 / 2 ^ k % 2 ^ 64) (count_is w) ∙
    (ap (λ k. k / 2 ^ (64 - w) % 2 ^ 64) r ∙ ap (λ k. k % 2 ^ 64) (mul-div_cancel (x % 2 ^ w) (pow_pos (64 - w))))))

-- ---- masks
pub mask_of_sign : (x a n : ℕ) → a % 2 ^ 64 ≡ residue 64 (signed 32 (x % 2 ^ 32)) % 2 ^ 64 →
    n % 2 ^ 64 ≡ residue 64 (int_div_euclid (signed 64 (a % 2 ^ 64)) (pos (2 ^ 63))) % 2 ^ 64 → n % 2 ^ 32 ≡ sign_mask 32 (x % 2 ^ 32) % 2 ^ 32
mask_of_sign x a n p q =
    low_constant 32 64 (int_div_euclid (signed 32 (x % 2 ^ 32)) (pos (2 ^ 63))) n (omega arith)
    (q ∙ ap (λ (z : ℤ). residue 64 (int_div_euclid z (pos (2 ^ 63))) % 2 ^ 64) (signs 32 64 (x % 2 ^ 32) a (omega arith) (omega arith) p)) ∙
    ap (λ k. k % 2 ^ 32) (sign_alone 63 (x % 2 ^ 32) (omega arith) (mod_below x (2 ^ 32) (pow_pos 32)))

mask_law : (t : Bool) → (2 ^ 32 - as_bit (not t) % 2 ^ 32) % 2 ^ 32 % 2 ^ 32 ≡ (if t then 0 else 4294967295) % 2 ^ 32
mask_law true = refl
mask_law false = refl

pub mask_of_zero : (x u t n : ℕ) → u % 2 ^ 64 ≡ x % 2 ^ 32 % 2 ^ 64 → t % 2 ^ 64 ≡ as_bit (not (u % 2 ^ 64 == 0)) % 2 ^ 64 →
    n % 2 ^ 64 ≡ (2 ^ 64 - t % 2 ^ 64) % 2 ^ 64 % 2 ^ 64 → n % 2 ^ 32 ≡ zero_mask 32 (x % 2 ^ 32) % 2 ^ 32
mask_of_zero x u t n p q r =
    low_neg 32 64 t n (omega arith) r ∙
    (ap (λ k. (2 ^ 32 - k) % 2 ^ 32 % 2 ^ 32)
    (low 32 64 t _ (omega arith) q ∙ ap (λ k. as_bit (not (k == 0)) % 2 ^ 32) (zeros 32 64 x u (omega arith) p)) ∙
    mask_law (x % 2 ^ 32 == 0))

-- ---- a rotation of 32 bits as two shifts
-- the bits that a shift left drops, brought in from the right
turned_none : (x : ℕ) → x < 2 ^ 32 → bit_or (x * 2 ^ 0 % 2 ^ 32) (x / 2 ^ 0) ≡ x * 2 ^ 0 % 2 ^ 32 + x / 2 ^ 32
turned_none x l =
    let a : x * 1 % 4294967296 ≡ x = omega arith in
    let b : x / 1 ≡ x = omega arith in
    let c : x / 4294967296 ≡ 0 = omega arith in
    ap (λ k. bit_or k (x / 1)) a ∙ (ap (λ k. bit_or x k) b ∙ (or_self x ∙ (let d : x ≡ x * 1 % 4294967296 + x / 4294967296 = omega arith in d)))

turned_some : (x j : ℕ) → x < 2 ^ 32 → j ≤ 32 → bit_or (x * 2 ^ j % 2 ^ 32) (x / 2 ^ (32 - j)) ≡ x * 2 ^ j % 2 ^ 32 + x / 2 ^ (32 - j)
turned_some x j l h =
    let p : 2 ^ 32 ≡ 2 ^ (32 - j) * 2 ^ j = pow_split j 32 h in
    let e : x * 2 ^ j % 2 ^ 32 ≡ x % 2 ^ (32 - j) * 2 ^ j = ap (λ k. x * 2 ^ j % k) p ∙ scaled x (2 ^ (32 - j)) (2 ^ j) (pow_pos (32 - j)) (pow_pos j) in
    let b : x / 2 ^ (32 - j) < 2 ^ j = div_below x (2 ^ (32 - j)) (2 ^ j) (pow_pos (32 - j)) (omega (arith, p)) in
    ap (λ k. bit_or k (x / 2 ^ (32 - j))) e ∙ (or_shifted (x % 2 ^ (32 - j)) j (x / 2 ^ (32 - j)) b ∙ ap (λ k. k + x / 2 ^ (32 - j)) (sym e))

turned_law : (x j c : ℕ) → x < 2 ^ 32 → j < 32 → c ≡ (32 - j) % 32 → bit_or (x * 2 ^ j % 2 ^ 32) (x / 2 ^ c) ≡ x * 2 ^ j % 2 ^ 32 + x / 2 ^ (32 - j)
turned_law x zero c l h e = let z : c ≡ 0 = omega arith in ap (λ k. bit_or (x * 2 ^ 0 % 2 ^ 32) (x / 2 ^ k)) z ∙ turned_none x l
turned_law x (suc j) c l h e =
    let z : c ≡ 32 - suc j = omega arith in
    ap (λ k. bit_or (x * 2 ^ suc j % 2 ^ 32) (x / 2 ^ k)) z ∙ turned_some x (suc j) l (omega arith)

-- the count, and the count that is left
count_up : (k u : ℕ) → u % 2 ^ 64 ≡ bit_and (k % 2 ^ 64) 31 % 2 ^ 64 → u % 2 ^ 64 ≡ k % 2 ^ 64 % 32
count_up k u e = e ∙ (ap (λ m. m % 2 ^ 64) (and_mask (k % 2 ^ 64) 5) ∙ (let d : k % 18446744073709551616 % 32 % 18446744073709551616 ≡ k % 18446744073709551616 % 32 = omega arith in d))

count_down : (k m c : ℕ) → m % 2 ^ 64 ≡ (2 ^ 64 - k % 2 ^ 64) % 2 ^ 64 % 2 ^ 64 → c % 2 ^ 64 ≡ bit_and (m % 2 ^ 64) 31 % 2 ^ 64 → c % 2 ^ 64 ≡ (32 - k % 2 ^ 64 % 32) % 32
count_down k m c f e = count_up m c e ∙ turned_count (k % 2 ^ 64) (m % 2 ^ 64) (mod_below k (2 ^ 64) (pow_pos 64)) f
  where
    turned_count : (k m : ℕ) → k < 18446744073709551616 → m ≡ (18446744073709551616 - k) % 18446744073709551616 % 18446744073709551616 → m % 32 ≡ (32 - k % 32) % 32
    turned_count k m l f = omega arith

small : (x c : ℕ) → x < 2 ^ 32 → x / 2 ^ c < 2 ^ 32
small x c l = div_below x (2 ^ c) (2 ^ 32) (pow_pos c) (let m : 2 ^ 32 * 1 ≤ 2 ^ 32 * 2 ^ c = mul-le (2 ^ 32) 1 (2 ^ 32) (2 ^ c) (omega arith) (pow_pos c) in omega arith)

pub rotate_law : (x k u a z m c b n : ℕ) → u % 2 ^ 64 ≡ bit_and (k % 2 ^ 64) 31 % 2 ^ 64 → a % 2 ^ 64 ≡ x % 2 ^ 64 * 2 ^ (u % 2 ^ 64) % 2 ^ 64 % 2 ^ 64 →
    z % 2 ^ 64 ≡ x % 2 ^ 32 % 2 ^ 64 → m % 2 ^ 64 ≡ (2 ^ 64 - k % 2 ^ 64) % 2 ^ 64 % 2 ^ 64 → c % 2 ^ 64 ≡ bit_and (m % 2 ^ 64) 31 % 2 ^ 64 →
    b % 2 ^ 64 ≡ z % 2 ^ 64 / 2 ^ (c % 2 ^ 64) % 2 ^ 64 → n % 2 ^ 64 ≡ bit_or (a % 2 ^ 64) (b % 2 ^ 64) % 2 ^ 64 →
    n % 2 ^ 32 ≡ (x % 2 ^ 32 * 2 ^ (k % 2 ^ 64 % 32) % 2 ^ 32 + x % 2 ^ 32 % 2 ^ 32 / 2 ^ (32 - k % 2 ^ 64 % 32)) % 2 ^ 32
rotate_law x k u a z m c b n fu fa fz fm fc fb fn =
    let l : x % 2 ^ 32 < 2 ^ 32 = mod_below x (2 ^ 32) (pow_pos 32) in
    let j : k % 2 ^ 64 % 32 < 32 = mod_below (k % 2 ^ 64) 32 (omega arith) in
    let p : a % 2 ^ 32 ≡ x % 2 ^ 32 * 2 ^ (k % 2 ^ 64 % 32) % 2 ^ 32 =
    low_left 32 64 x (k % 2 ^ 64 % 32) a (omega arith) (fa ∙ ap (λ i. x % 2 ^ 64 * 2 ^ i % 2 ^ 64 % 2 ^ 64) (count_up k u fu)) ∙ mod-mod (x % 2 ^ 32 * 2 ^ (k % 2 ^ 64 % 32)) (2 ^ 32) in
    let q : b % 2 ^ 32 ≡ x % 2 ^ 32 / 2 ^ (c % 2 ^ 64) =
    low 32 64 b _ (omega arith) fb ∙ (ap (λ i. i / 2 ^ (c % 2 ^ 64) % 2 ^ 32) (zeros 32 64 x z (omega arith) fz) ∙ mod-eq_of_lt (small (x % 2 ^ 32) (c % 2 ^ 64) l)) in
    low_or 32 64 a b n (omega arith) fn ∙
    (ap (λ i. bit_or i (b % 2 ^ 32) % 2 ^ 32) p ∙
    (ap (λ i. bit_or (x % 2 ^ 32 * 2 ^ (k % 2 ^ 64 % 32) % 2 ^ 32) i % 2 ^ 32) q ∙
    (ap (λ i. i % 2 ^ 32) (turned_law (x % 2 ^ 32) (k % 2 ^ 64 % 32) (c % 2 ^ 64) l j (count_down k m c fm fc)) ∙
    ap (λ i. (x % 2 ^ 32 * 2 ^ (k % 2 ^ 64 % 32) % 2 ^ 32 + i / 2 ^ (32 - k % 2 ^ 64 % 32)) % 2 ^ 32) (sym (mod-mod x (2 ^ 32))))))
