-- Laws of extended numbers: what words of k bits compute of narrow numbers that were extended to k bits first.
use Rattle.std.proofs.Common.{◌≡◌, ℕ, zero, suc, ◌-◌, ◌/◌, ◌%◌, ◌^◌, ◌<◌, ◌≤◌, refl, ap, sym, ◌∙◌, arith, inl, inr, ℤ, pos, negsuc, Bool, true, false, if◌then◌else◌, ◌==◌, IsTrue, int_div, int_rem, int_lt}
use Rattle.std.specs.Int.{int_div_euclid}
use Rattle.std.proofs.lemmas.Bool.{cases_lt, lt-ltb, ltb-true}
use Rattle.std.proofs.lemmas.Bool.Decides.{nat_tests}
use Rattle.std.proofs.lemmas.Nat.{pow_pos, mod_below, div_below}
use Rattle.std.proofs.Math.Nat.{mod-eq_of_lt, mod-mod, zero-mod}
use Rattle.std.proofs.Math.Pow.{pow_mono}
use Rattle.bk_num.specs.Word.{signed, residue, fits_signed}
use Rattle.bk_num.proofs.Signs.{residue_signed, signed_residue, signed_fits}
use Rattle.bk_ops.specs.Arithmetic.{less, sign_mask}
use Rattle.bk_ops.proofs.Cut.{residue_again}
use Rattle.bk_ops.proofs.LowBits.{residue-low}
use Rattle.bk_ops.proofs.Order.{signed_low, signed_high}
use Rattle.bk_rules_words.proofs.LowBits.{low, low_constant}

-- ---- with zeros
-- a narrow number fits a word
pub plain : (w k x : ℕ) → w ≤ k → x % 2 ^ w % 2 ^ k ≡ x % 2 ^ w
plain w k x h = let m : 2 ^ w ≤ 2 ^ k = pow_mono h in mod-eq_of_lt (omega (arith, mod_below x (2 ^ w) (pow_pos w)))

pub zeros : (w k x a : ℕ) → w ≤ k → a % 2 ^ k ≡ x % 2 ^ w % 2 ^ k → a % 2 ^ k ≡ x % 2 ^ w
zeros w k x a h e = e ∙ plain w k x h

-- ---- with the sign
wider_fits : (w k : ℕ) (z : ℤ) → w ≤ k → IsTrue (fits_signed w z) → IsTrue (fits_signed k z)
wider_fits w k (pos n) h f =
    let m : 2 ^ (w - 1) ≤ 2 ^ (k - 1) = pow_mono {j = k - 1} (omega arith) in
    let b : n < 2 ^ (w - 1) = ltb-true n (2 ^ (w - 1)) f in
    lt-ltb n (2 ^ (k - 1)) (omega arith)
wider_fits w k (negsuc n) h f =
    let m : 2 ^ (w - 1) ≤ 2 ^ (k - 1) = pow_mono {j = k - 1} (omega arith) in
    let b : n < 2 ^ (w - 1) = ltb-true n (2 ^ (w - 1)) f in
    lt-ltb n (2 ^ (k - 1)) (omega arith)

-- what k bits spell that were extended from w bits
pub signs : (w k x a : ℕ) → 1 ≤ w → w ≤ k → a % 2 ^ k ≡ residue k (signed w x) % 2 ^ k → signed k (a % 2 ^ k) ≡ signed w x
signs w k x a l h e =
    ap (signed k) (e ∙ residue_again k (signed w x)) ∙ signed_residue k (signed w x) (omega arith) (wider_fits w k (signed w x) h (signed_fits w x l))

-- they are zero where the w bits are
zero_there : (w k y b : ℕ) → 1 ≤ w → w ≤ k → y < 2 ^ w → b ≡ residue k (signed w y) → signed k b ≡ signed w y → (b == 0) ≡ (y == 0)
zero_there w k zero b l h m e s =
    let r : b ≡ 0 = e ∙ (ap (residue k) (signed_low w 0 l (pow_pos (w - 1))) ∙ zero-mod (2 ^ k)) in
    rw r refl
zero_there w k (suc y) zero l h m e s =
    let r : residue w (signed w (suc y)) ≡ suc y = residue_signed w (suc y) l ∙ mod-eq_of_lt m in
    let z : residue w (signed k 0) ≡ 0 = ap (residue w) (signed_low k 0 (omega arith) (pow_pos (k - 1))) ∙ zero-mod (2 ^ w) in
    let q : suc y ≡ 0 = sym r ∙ (ap (residue w) (sym s) ∙ z) in
    absurd (omega arith)
zero_there w k (suc y) (suc b) l h m e s = grind (arith, nat_tests)

pub zero_alike : (w k y b : ℕ) → 1 ≤ w → w ≤ k → b % 2 ^ k ≡ residue k (signed w (y % 2 ^ w)) % 2 ^ k → (b % 2 ^ k == 0) ≡ (y % 2 ^ w == 0)
zero_alike w k y b l h e =
    zero_there w k (y % 2 ^ w) (b % 2 ^ k) l h (mod_below y (2 ^ w) (pow_pos w)) (e ∙ residue_again k (signed w (y % 2 ^ w))) (signs w k (y % 2 ^ w) b l h e)

-- the low bits of a number that was extended
pub signs_low : (w k x a : ℕ) → 1 ≤ w → w ≤ k → a % 2 ^ k ≡ residue k (signed w (x % 2 ^ w)) % 2 ^ k → a % 2 ^ k % 2 ^ w ≡ x % 2 ^ w
signs_low w k x a l h e =
    ap (λ i. i % 2 ^ w) (e ∙ residue_again k (signed w (x % 2 ^ w))) ∙ (residue-low w k (signed w (x % 2 ^ w)) h ∙ (residue_signed w (x % 2 ^ w) l ∙ mod-mod x (2 ^ w)))

-- ---- quotients and remainders; over zero a quotient is o at k bits, z at w
over : (w k o z : ℕ) (t : Bool) (q : ℤ) → w ≤ k → o % 2 ^ w ≡ z % 2 ^ w → (if t then o else residue k q) % 2 ^ w ≡ (if t then z else residue w q) % 2 ^ w
over w k o z true q h e = e
over w k o z false q h e = residue-low w k q h ∙ sym (residue_again w q)

pub div_signs : (w k o z x y a b n : ℕ) → 1 ≤ w → w ≤ k → o % 2 ^ w ≡ z % 2 ^ w →
    a % 2 ^ k ≡ residue k (signed w (x % 2 ^ w)) % 2 ^ k → b % 2 ^ k ≡ residue k (signed w (y % 2 ^ w)) % 2 ^ k →
    n % 2 ^ k ≡ (if b % 2 ^ k == 0 then o else residue k (int_div (signed k (a % 2 ^ k)) (signed k (b % 2 ^ k)))) % 2 ^ k →
    n % 2 ^ w ≡ (if y % 2 ^ w == 0 then z else residue w (int_div (signed w (x % 2 ^ w)) (signed w (y % 2 ^ w)))) % 2 ^ w
div_signs w k o z x y a b n l h f p q e =
    low w k n _ h e ∙
    (ap (λ (t : Bool). (if t then o else residue k (int_div (signed k (a % 2 ^ k)) (signed k (b % 2 ^ k)))) % 2 ^ w) (zero_alike w k y b l h q) ∙
    (ap (λ (i : ℤ). (if y % 2 ^ w == 0 then o else residue k (int_div i (signed k (b % 2 ^ k)))) % 2 ^ w) (signs w k (x % 2 ^ w) a l h p) ∙
    (ap (λ (i : ℤ). (if y % 2 ^ w == 0 then o else residue k (int_div (signed w (x % 2 ^ w)) i)) % 2 ^ w) (signs w k (y % 2 ^ w) b l h q) ∙
    over w k o z (y % 2 ^ w == 0) (int_div (signed w (x % 2 ^ w)) (signed w (y % 2 ^ w))) h f)))

rest : (w k x a : ℕ) (t : Bool) (q : ℤ) → w ≤ k → a % 2 ^ w ≡ x → (if t then a else residue k q) % 2 ^ w ≡ (if t then x % 2 ^ w else residue w q) % 2 ^ w
rest w k x a true q h e = sym (mod-mod a (2 ^ w)) ∙ (ap (λ i. i % 2 ^ w) e ∙ sym (mod-mod x (2 ^ w)))
rest w k x a false q h e = residue-low w k q h ∙ sym (residue_again w q)

pub mod_signs : (w k x y a b n : ℕ) → 1 ≤ w → w ≤ k →
    a % 2 ^ k ≡ residue k (signed w (x % 2 ^ w)) % 2 ^ k → b % 2 ^ k ≡ residue k (signed w (y % 2 ^ w)) % 2 ^ k →
    n % 2 ^ k ≡ (if b % 2 ^ k == 0 then a % 2 ^ k else residue k (int_rem (signed k (a % 2 ^ k)) (signed k (b % 2 ^ k)))) % 2 ^ k →
    n % 2 ^ w ≡ (if y % 2 ^ w == 0 then x % 2 ^ w else residue w (int_rem (signed w (x % 2 ^ w)) (signed w (y % 2 ^ w)))) % 2 ^ w
mod_signs w k x y a b n l h p q e =
    low w k n _ h e ∙
    (ap (λ (t : Bool). (if t then a % 2 ^ k else residue k (int_rem (signed k (a % 2 ^ k)) (signed k (b % 2 ^ k)))) % 2 ^ w) (zero_alike w k y b l h q) ∙
    (ap (λ (i : ℤ). (if y % 2 ^ w == 0 then a % 2 ^ k else residue k (int_rem i (signed k (b % 2 ^ k)))) % 2 ^ w) (signs w k (x % 2 ^ w) a l h p) ∙
    (ap (λ (i : ℤ). (if y % 2 ^ w == 0 then a % 2 ^ k else residue k (int_rem (signed w (x % 2 ^ w)) i)) % 2 ^ w) (signs w k (y % 2 ^ w) b l h q) ∙
    (rest w k (x % 2 ^ w) (a % 2 ^ k) (y % 2 ^ w == 0) (int_rem (signed w (x % 2 ^ w)) (signed w (y % 2 ^ w))) h (signs_low w k x a l h p) ∙
    ap (λ i. (if y % 2 ^ w == 0 then i else residue w (int_rem (signed w (x % 2 ^ w)) (signed w (y % 2 ^ w)))) % 2 ^ w) (mod-mod x (2 ^ w))))))

over_plain : (w o z q : ℕ) (t : Bool) → o % 2 ^ w ≡ z % 2 ^ w → (if t then o else q) % 2 ^ w ≡ (if t then z else q) % 2 ^ w
over_plain w o z q true e = e
over_plain w o z q false e = refl

pub div_zeros : (w k o z x y a b n : ℕ) → w ≤ k → o % 2 ^ w ≡ z % 2 ^ w → a % 2 ^ k ≡ x % 2 ^ w % 2 ^ k → b % 2 ^ k ≡ y % 2 ^ w % 2 ^ k →
    n % 2 ^ k ≡ (if b % 2 ^ k == 0 then o else a % 2 ^ k / (b % 2 ^ k)) % 2 ^ k →
    n % 2 ^ w ≡ (if y % 2 ^ w == 0 then z else x % 2 ^ w / (y % 2 ^ w)) % 2 ^ w
div_zeros w k o z x y a b n h f p q e =
    low w k n _ h e ∙
    (ap (λ i. (if b % 2 ^ k == 0 then o else i / (b % 2 ^ k)) % 2 ^ w) (zeros w k x a h p) ∙
    (ap (λ i. (if i == 0 then o else x % 2 ^ w / i) % 2 ^ w) (zeros w k y b h q) ∙ over_plain w o z (x % 2 ^ w / (y % 2 ^ w)) (y % 2 ^ w == 0) f))

pub mod_zeros : (w k x y a b n : ℕ) → w ≤ k → a % 2 ^ k ≡ x % 2 ^ w % 2 ^ k → b % 2 ^ k ≡ y % 2 ^ w % 2 ^ k →
    n % 2 ^ k ≡ (if b % 2 ^ k == 0 then a % 2 ^ k else a % 2 ^ k % (b % 2 ^ k)) % 2 ^ k →
    n % 2 ^ w ≡ (if y % 2 ^ w == 0 then x % 2 ^ w else x % 2 ^ w % (y % 2 ^ w)) % 2 ^ w
mod_zeros w k x y a b n h p q e =
    low w k n _ h e ∙
    (ap (λ i. (if b % 2 ^ k == 0 then i else i % (b % 2 ^ k)) % 2 ^ w) (zeros w k x a h p) ∙
    ap (λ i. (if i == 0 then x % 2 ^ w else x % 2 ^ w % i) % 2 ^ w) (zeros w k y b h q))

-- ---- shifts right by c
pub right_signs : (w k x a c n : ℕ) → 1 ≤ w → w ≤ k → a % 2 ^ k ≡ residue k (signed w (x % 2 ^ w)) % 2 ^ k →
    n % 2 ^ k ≡ residue k (int_div_euclid (signed k (a % 2 ^ k)) (pos (2 ^ c))) % 2 ^ k →
    n % 2 ^ w ≡ residue w (int_div_euclid (signed w (x % 2 ^ w)) (pos (2 ^ c))) % 2 ^ w
right_signs w k x a c n l h p e =
    low_constant w k (int_div_euclid (signed w (x % 2 ^ w)) (pos (2 ^ c))) n h
    (e ∙ ap (λ (i : ℤ). residue k (int_div_euclid i (pos (2 ^ c))) % 2 ^ k) (signs w k (x % 2 ^ w) a l h p))

pub right_zeros : (w k x a c n : ℕ) → w ≤ k → a % 2 ^ k ≡ x % 2 ^ w % 2 ^ k → n % 2 ^ k ≡ a % 2 ^ k / 2 ^ c % 2 ^ k → n % 2 ^ w ≡ x % 2 ^ w / 2 ^ c % 2 ^ w
right_zeros w k x a c n h p e = low w k n _ h e ∙ ap (λ i. i / 2 ^ c % 2 ^ w) (zeros w k x a h p)

-- ---- orders
pub less_signs : (w k x y a b : ℕ) → 1 ≤ w → w ≤ k →
    a % 2 ^ k ≡ residue k (signed w (x % 2 ^ w)) % 2 ^ k → b % 2 ^ k ≡ residue k (signed w (y % 2 ^ w)) % 2 ^ k →
    less k (a % 2 ^ k) (b % 2 ^ k) ≡ less w (x % 2 ^ w) (y % 2 ^ w)
less_signs w k x y a b l h p q =
    ap (λ (i : ℤ). int_lt i (signed k (b % 2 ^ k))) (signs w k (x % 2 ^ w) a l h p) ∙ ap (λ (i : ℤ). int_lt (signed w (x % 2 ^ w)) i) (signs w k (y % 2 ^ w) b l h q)

-- ---- the sign alone
pub sign_alone : (c x : ℕ) → 31 ≤ c → x < 2 ^ 32 → residue 32 (int_div_euclid (signed 32 x) (pos (2 ^ c))) ≡ sign_mask 32 x
sign_alone c x h l =
    let m : 2 ^ 31 ≤ 2 ^ c = pow_mono h in
    elim (cases_lt x 2147483648) [
      | inl i ↦
          (let z : x / 2 ^ c ≡ 0 = gone x (2 ^ c) (pow_pos c) (omega arith) in
          ap (λ (y : ℤ). residue 32 (int_div_euclid y (pos (2 ^ c)))) (signed_low 32 x (omega arith) i) ∙ (ap (λ k. k % 2 ^ 32) z ∙ mask_low x i))
      | inr i ↦
          (let z : (4294967296 - suc x) / 2 ^ c ≡ 0 = gone (4294967296 - suc x) (2 ^ c) (pow_pos c) (omega arith) in
          ap (λ (y : ℤ). residue 32 (int_div_euclid y (pos (2 ^ c)))) (signed_high 32 x i l) ∙ (ap (λ k. residue 32 (negsuc k)) z ∙ mask_high x i))
    ]
  where
    gone : (n d : ℕ) → 0 < d → n < d → n / d ≡ 0
    gone n d p l = let b : n / d < 1 = div_below n d 1 p (omega arith) in omega arith

    mask_low : (x : ℕ) → x < 2147483648 → 0 ≡ sign_mask 32 x
    mask_low x i = grind (arith, nat_tests)

    mask_high : (x : ℕ) → 2147483648 ≤ x → 4294967295 ≡ sign_mask 32 x
    mask_high x i = grind (arith, nat_tests)
