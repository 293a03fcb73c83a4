-- The low bits of signed numbers: sums, differences, products, complements, and numbers that were wrapped.
use Rattle.std.proofs.Common.{◌≡◌, ℕ, suc, ◌+◌, ◌-◌, ◌*◌, ◌/◌, ◌%◌, ◌^◌, ◌<◌, ◌≤◌, refl, ap, sym, ◌∙◌, arith, inl, inr, ◌⊎◌, Bool, true, false, nat_lt, if◌then◌else◌, ℤ, pos, negsuc, ◌+ℤ◌, ◌-ℤ◌, ◌*ℤ◌, neg_ℤ, bit_and, bit_or, bit_xor}
use Rattle.std.proofs.lemmas.Int.{ints}
use Rattle.std.proofs.lemmas.Nat.{pow_pos, mod_below, div-add-mod', mul-mod, and_mod, or_mod, xor_mod}
use Rattle.std.proofs.Math.Nat.{mod-mod, mod-eq_of_lt, mul_comm}
use borrow.Author.Differences.{up, down}
use Rattle.bk_num.specs.Word.{signed, residue}
use Rattle.bk_num.proofs.Powers.{pow_split, mod_mod}
use Rattle.bk_num.proofs.Signs.{residue_below}
use Rattle.bk_ops.specs.Arithmetic.{difference, complement}
use Rattle.bk_ops.proofs.Cut.{same_mod}

-- what is left of a multiple of m under n + 1
under_multiple : (n k m : ℕ) → 0 < m → n < k * m → (k * m - suc n) % m ≡ m - 1 - n % m
under_multiple n k m p l =
    let c : n % m < m = mod_below n m p in
    same_mod (k * m - suc n) (m - 1 - n % m) (n / m + 1) k m (omega (arith, div-add-mod' n m)) ∙ mod-eq_of_lt (omega arith)

-- a signed number and a number that differ by multiples of 2 ^ w have the same low bits
pub same_low : (w : ℕ) (z : ℤ) (n k l : ℕ) → up z + k * 2 ^ w ≡ n + down z + l * 2 ^ w → residue w z ≡ n % 2 ^ w
same_low w (pos a) n k l e = same_mod a n k l (2 ^ w) (omega arith)
same_low w (negsuc a) n k l e =
    sym (under_multiple a k (2 ^ w) (pow_pos w) (omega arith)) ∙ same_mod (k * 2 ^ w - suc a) n 0 l (2 ^ w) (omega arith)

-- by which multiples of 2 ^ w a signed number and its low bits differ
pub record Differ (w : ℕ) (z : ℤ) : Type 0 where
  pub more : ℕ
  pub less : ℕ
  pub is : up z + more * 2 ^ w ≡ residue w z + down z + less * 2 ^ w

pub differ : (w : ℕ) (z : ℤ) → Differ w z
differ w (pos n) = record { more = 0; less = n / 2 ^ w; is = omega (arith, div-add-mod' n (2 ^ w)) }
differ w (negsuc n) = record { more = n / 2 ^ w + 1; less = 0; is = omega (arith, div-add-mod' n (2 ^ w), mod_below n (2 ^ w) (pow_pos w)) }

pub residue-add : (w : ℕ) (a b : ℤ) → residue w (a +ℤ b) ≡ (residue w a + residue w b) % 2 ^ w
residue-add w a b =
    let p = differ w a in
    let q = differ w b in
    same_low w (a +ℤ b) (residue w a + residue w b) (p.more + q.more) (p.less + q.less) (omega (arith, ints, p.is, q.is))

pub residue-neg : (w : ℕ) (a : ℤ) → residue w (neg_ℤ a) ≡ (2 ^ w - residue w a) % 2 ^ w
residue-neg w a =
    let p = differ w a in
    same_low w (neg_ℤ a) (2 ^ w - residue w a) (p.less + 1) p.more (omega (arith, ints, p.is, residue_below w a))

pub residue-sub : (w : ℕ) (a b : ℤ) → residue w (a -ℤ b) ≡ difference w (residue w a) (residue w b)
residue-sub w a b =
    let p = differ w a in
    let q = differ w b in
    same_low w (a -ℤ b) (residue w a + (2 ^ w - residue w b)) (p.more + q.less + 1) (p.less + q.more) (omega (arith, ints, p.is, q.is, residue_below w b))

-- the number -1 - a
pub residue-complement : (w : ℕ) (a : ℤ) → residue w (negsuc 0 -ℤ a) ≡ complement w (residue w a)
residue-complement w a =
    let p = differ w a in
    let l : residue w a < 2 ^ w = residue_below w a in
    same_low w (negsuc 0 -ℤ a) (complement w (residue w a)) (p.less + 1) p.more (omega (arith, ints, p.is, l)) ∙ mod-eq_of_lt (omega arith)

-- a product of a number and a complement, up to multiples of m
crossed : (a b m qa ra qb sb rb : ℕ) → qa * m + ra ≡ a → qb * m + sb ≡ b → rb + suc sb ≡ m → (ra + qa * suc b + ra * qb) * m ≡ ra * rb + a * suc b
crossed a b m qa ra qb sb rb e f g = rw (← e, ← f, ← g) (omega arith)

-- a product of two complements, up to multiples of m
both : (a b m ra rb k l : ℕ) → a + ra ≡ k * m → b + rb ≡ l * m → a * b + (k * rb + l * ra) * m ≡ ra * rb + k * l * m * m
both a b m ra rb k l e f =
    omega (arith, ap (λ n. n * rb) e, ap (λ n. n * ra) f, ap (λ n. (a + ra) * n) f, ap (λ n. n * (l * m)) e)

mixed : (w a b : ℕ) → residue w (pos a *ℤ negsuc b) ≡ residue w (pos a) * residue w (negsuc b) % 2 ^ w
mixed w a b =
    let p : 0 < 2 ^ w = pow_pos w in
    let l : b % 2 ^ w < 2 ^ w = mod_below b (2 ^ w) p in
    let r : a * suc b % 2 ^ w < 2 ^ w = mod_below (a * suc b) (2 ^ w) p in
    let d : a * suc b / 2 ^ w * 2 ^ w + a * suc b % 2 ^ w ≡ a * suc b = div-add-mod' (a * suc b) (2 ^ w) in
    let e = crossed a b (2 ^ w) (a / 2 ^ w) (a % 2 ^ w) (b / 2 ^ w) (b % 2 ^ w) (2 ^ w - 1 - b % 2 ^ w) (div-add-mod' a (2 ^ w)) (div-add-mod' b (2 ^ w)) (omega arith) in
    residue-neg w (pos (a * suc b)) ∙
    same_mod (2 ^ w - a * suc b % 2 ^ w) (a % 2 ^ w * (2 ^ w - 1 - b % 2 ^ w)) (a % 2 ^ w + a / 2 ^ w * suc b + a % 2 ^ w * (b / 2 ^ w)) (a * suc b / 2 ^ w + 1) (2 ^ w)
    (turned_round (2 ^ w) (a * suc b) (a * suc b % 2 ^ w) (a * suc b / 2 ^ w) (a % 2 ^ w * (2 ^ w - 1 - b % 2 ^ w)) (a % 2 ^ w + a / 2 ^ w * suc b + a % 2 ^ w * (b / 2 ^ w)) r d e)
  where
    turned_round : (m n r q x k : ℕ) → r < m → q * m + r ≡ n → k * m ≡ x + n → m - r + k * m ≡ x + (q + 1) * m
    turned_round m n r q x k l d e = omega arith

negatives : (w a b : ℕ) → suc a * suc b % 2 ^ w ≡ residue w (negsuc a) * residue w (negsuc b) % 2 ^ w
negatives w a b =
    let p : 0 < 2 ^ w = pow_pos w in
    same_mod (suc a * suc b) ((2 ^ w - 1 - a % 2 ^ w) * (2 ^ w - 1 - b % 2 ^ w))
    ((a / 2 ^ w + 1) * (2 ^ w - 1 - b % 2 ^ w) + (b / 2 ^ w + 1) * (2 ^ w - 1 - a % 2 ^ w)) ((a / 2 ^ w + 1) * (b / 2 ^ w + 1) * 2 ^ w) (2 ^ w)
    (both (suc a) (suc b) (2 ^ w) (2 ^ w - 1 - a % 2 ^ w) (2 ^ w - 1 - b % 2 ^ w) (a / 2 ^ w + 1) (b / 2 ^ w + 1)
    (omega (arith, div-add-mod' a (2 ^ w), mod_below a (2 ^ w) p)) (omega (arith, div-add-mod' b (2 ^ w), mod_below b (2 ^ w) p)))

pub residue-mul : (w : ℕ) (a b : ℤ) → residue w (a *ℤ b) ≡ residue w a * residue w b % 2 ^ w
residue-mul w (pos a) (pos b) = mul-mod a b (2 ^ w)
residue-mul w (pos a) (negsuc b) = mixed w a b
residue-mul w (negsuc a) (pos b) =
    ap (λ n. residue w (neg_ℤ (pos n))) (mul_comm (suc a) b) ∙ (mixed w b a ∙ ap (λ n. n % 2 ^ w) (mul_comm (residue w (pos b)) (residue w (negsuc a))))
residue-mul w (negsuc a) (negsuc b) = negatives w a b

-- ---- signed numbers there and back
signed_cases : (w n : ℕ) → (signed w n ≡ pos (n % 2 ^ w)) ⊎ (signed w n ≡ negsuc (2 ^ w - suc (n % 2 ^ w)))
signed_cases w n = go (nat_lt (n % 2 ^ w) (2 ^ (w - 1)))
  where
    go : (t : Bool) → ((if t then pos (n % 2 ^ w) else negsuc (2 ^ w - suc (n % 2 ^ w))) ≡ pos (n % 2 ^ w)) ⊎ ((if t then pos (n % 2 ^ w) else negsuc (2 ^ w - suc (n % 2 ^ w))) ≡ negsuc (2 ^ w - suc (n % 2 ^ w)))
    go true = inl refl
    go false = inr refl

-- the low bits of the signed number that v bits spell
pub residue-signed : (w v n : ℕ) → w ≤ v → residue w (signed v n) ≡ n % 2 ^ w
residue-signed w v n h =
    elim (signed_cases v n) [
      | inl e ↦ ap (residue w) e ∙ mod_mod n w v h
      | inr e ↦ ap (residue w) e ∙ (same_low w (negsuc (2 ^ v - suc (n % 2 ^ v))) (n % 2 ^ v) (2 ^ (v - w)) 0 (omega (arith, pow_split w v h, mod_below n (2 ^ v) (pow_pos v))) ∙ mod_mod n w v h)
    ]

-- the low bits of the low bits
pub residue-low : (w v : ℕ) (z : ℤ) → w ≤ v → residue v z % 2 ^ w ≡ residue w z
residue-low w v z h =
    let p = differ v z in
    sym (same_low w z (residue v z) (p.more * 2 ^ (v - w)) (p.less * 2 ^ (v - w)) (omega (arith, p.is, ap (λ n. p.more * n) (pow_split w v h), ap (λ n. p.less * n) (pow_split w v h))))

-- a number that was wrapped to v bits
pub residue-wrapped : (w v : ℕ) (z : ℤ) → w ≤ v → residue w (signed v (residue v z)) ≡ residue w z
residue-wrapped w v z h = residue-signed w v (residue v z) h ∙ residue-low w v z h

-- bits of signed numbers, which were combined at v bits
pub residue-and : (w v : ℕ) (a b : ℤ) → w ≤ v → residue w (signed v (bit_and (residue v a) (residue v b))) ≡ bit_and (residue w a) (residue w b)
residue-and w v a b h =
    residue-signed w v (bit_and (residue v a) (residue v b)) h
    ∙ (and_mod (residue v a) (residue v b) w ∙ rw (residue-low w v a h, residue-low w v b h) refl)

pub residue-or : (w v : ℕ) (a b : ℤ) → w ≤ v → residue w (signed v (bit_or (residue v a) (residue v b))) ≡ bit_or (residue w a) (residue w b)
residue-or w v a b h =
    residue-signed w v (bit_or (residue v a) (residue v b)) h
    ∙ (or_mod (residue v a) (residue v b) w ∙ rw (residue-low w v a h, residue-low w v b h) refl)

pub residue-xor : (w v : ℕ) (a b : ℤ) → w ≤ v → residue w (signed v (bit_xor (residue v a) (residue v b))) ≡ bit_xor (residue w a) (residue w b)
residue-xor w v a b h =
    residue-signed w v (bit_xor (residue v a) (residue v b)) h
    ∙ (xor_mod (residue v a) (residue v b) w ∙ rw (residue-low w v a h, residue-low w v b h) refl)

-- the signed number that a number of w bits spells is that of its low bits
pub signed_again : (w n : ℕ) → signed w (n % 2 ^ w) ≡ signed w n
signed_again w n = rw (mod-mod n (2 ^ w)) refl
