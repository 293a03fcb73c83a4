-- Counts of shifts in 64, 32 or fewer bits, and the rotation of 64 bits as two shifts.
use Rattle.std.proofs.Common.{◌≡◌, ℕ, zero, suc, ◌+◌, ◌-◌, ◌*◌, ◌/◌, ◌%◌, ◌^◌, ◌<◌, ◌≤◌, ap, sym, subst, ◌∙◌, arith, inl, inr, ◌⊎◌, bit_and, bit_or, ℤ, pos, negsuc, IsTrue}
use Rattle.std.specs.Int.{int_div_euclid}
use Rattle.std.specs.Int.Bits.{or_zero_l, or_self}
use Rattle.std.proofs.lemmas.Bool.{cases_lt, ltb-true}
use Rattle.std.proofs.lemmas.Bool.Decides.{nat_tests}
use Rattle.std.proofs.lemmas.Nat.{pow_pos, mod_below, div_below, and_mask, or_shifted, le_or_l, or_lt}
use Rattle.std.proofs.Math.Nat.{mod-eq_of_lt, mod-mod, div-le_self}
use Rattle.bk_num.specs.Word.{signed, residue, fits_signed}
use Rattle.bk_num.proofs.Powers.{pow_split, shl_gone}
use Rattle.bk_num.proofs.Signs.{signed_fits}
use Rattle.bk_ops.specs.Arithmetic.{zero_mask}
use Rattle.bk_rules_dec64.proofs.Halves.{hi, lo, lo_below, hi_below, whole}
use Rattle.bk_rules_dec64.proofs.HalfShifts.{gone_right, low_half}
use Rattle.bk_rules_dec64.proofs.Signed.{shifted}

-- ---- long counts
-- a count of 64 bits in one word: all ones where its high half has a bit
abbrev pub count : ℕ → ℕ
count b = bit_or (zero_mask 32 (hi b) % 2 ^ 32) (lo b) % 2 ^ 32

-- two counts are one, or no bit is left at either
abbrev pub Alike : ℕ → ℕ → Type 0
Alike c y = (c ≡ y) ⊎ ((64 ≤ c) × (64 ≤ y))

small_count : (y : ℕ) → y < 4294967296 → count y ≡ y
small_count y l =
    let h : hi y ≡ 0 = high_none y l in
    let z : zero_mask 32 (hi y) ≡ 0 = grind (arith, nat_tests) in
    ap (λ n. bit_or (n % 2 ^ 32) (lo y) % 2 ^ 32) z ∙ (ap (λ n. n % 2 ^ 32) (or_zero_l (lo y)) ∙ low_all y l)
  where
    high_none : (y : ℕ) → y < 4294967296 → y % 18446744073709551616 / 4294967296 % 4294967296 ≡ 0
    high_none y l = omega arith

    low_all : (y : ℕ) → y < 4294967296 → y % 18446744073709551616 % 4294967296 % 4294967296 % 4294967296 ≡ y
    low_all y l = omega arith

large_count : (y : ℕ) → 4294967296 ≤ y → y < 18446744073709551616 → 64 ≤ count y
large_count y i l =
    let h : 0 < hi y = high_some y i l in
    let z : zero_mask 32 (hi y) ≡ 4294967295 = grind (arith, nat_tests) in
    let m : 4294967295 ≤ bit_or 4294967295 (lo y) = le_or_l 4294967295 (lo y) in
    let n : bit_or 4294967295 (lo y) < 4294967296 = or_lt 32 4294967295 (lo y) (omega arith) (lo_below y) in
    let e : count y ≡ bit_or 4294967295 (lo y) = ap (λ n. bit_or (n % 2 ^ 32) (lo y) % 2 ^ 32) z ∙ mod-eq_of_lt n in
    bounded (count y) (bit_or 4294967295 (lo y)) e m
  where
    high_some : (y : ℕ) → 4294967296 ≤ y → y < 18446744073709551616 → 0 < y % 18446744073709551616 / 4294967296 % 4294967296
    high_some y i l = omega arith

    bounded : (c o : ℕ) → c ≡ o → 4294967295 ≤ o → 64 ≤ c
    bounded c o e m = omega arith

count_is : (y : ℕ) → y < 18446744073709551616 → Alike (count y) y
count_is y l =
    elim (cases_lt y 4294967296) [
      | inl i ↦ inl (small_count y i)
      | inr i ↦ inr (large_count y i l, omega arith)
    ]

count_law : (b y : ℕ) → b ≡ y → y < 2 ^ 64 → Alike (count b) y
count_law b y p l = subst (λ n. Alike (count n) y) (sym p) (count_is y l)

-- ---- shifts at counts that are alike
left_alike : (w x c y : ℕ) → w ≤ 64 → Alike c y → x * 2 ^ c % 2 ^ w ≡ x * 2 ^ y % 2 ^ w
left_alike w x c y h (inl e) = ap (λ n. x * 2 ^ n % 2 ^ w) e
left_alike w x c y h (inr (p, q)) = sym (shl_gone w x c (omega arith)) ∙ shl_gone w x y (omega arith)

right_alike : (w x c y : ℕ) → w ≤ 64 → x < 2 ^ w → Alike c y → x / 2 ^ c ≡ x / 2 ^ y
right_alike w x c y h l (inl e) = ap (λ n. x / 2 ^ n) e
right_alike w x c y h l (inr (p, q)) = gone_right w x c (omega arith) l ∙ sym (gone_right w x y (omega arith) l)

sign_alone : (w : ℕ) (z : ℤ) (c y : ℕ) → w ≤ c → w ≤ y → IsTrue (fits_signed w z) → int_div_euclid z (pos (2 ^ c)) ≡ int_div_euclid z (pos (2 ^ y))
sign_alone w (pos n) c y p q f =
    let b : n < 2 ^ (w - 1) = ltb-true n (2 ^ (w - 1)) f in
    ap pos (gone_right (w - 1) n c (omega arith) b ∙ sym (gone_right (w - 1) n y (omega arith) b))
sign_alone w (negsuc n) c y p q f =
    let b : n < 2 ^ (w - 1) = ltb-true n (2 ^ (w - 1)) f in
    ap negsuc (gone_right (w - 1) n c (omega arith) b ∙ sym (gone_right (w - 1) n y (omega arith) b))

signed_alike : (w x c y : ℕ) → 1 ≤ w → w ≤ 64 → Alike c y → shifted w x c ≡ shifted w x y
signed_alike w x c y l h (inl e) = ap (λ n. shifted w x n) e
signed_alike w x c y l h (inr (p, q)) = ap (residue w) (sign_alone w (signed w x) c y (omega arith) (omega arith) (signed_fits w x l))

pub cut_is : (w a x : ℕ) → a ≡ x → x < 2 ^ w → a % 2 ^ w ≡ x
cut_is w a x p l = ap (λ n. n % 2 ^ w) p ∙ mod-eq_of_lt l

pub long_left : (w a b x y v : ℕ) → w ≤ 64 → a ≡ x → b ≡ y → x < 2 ^ w → y < 2 ^ 64 → x * 2 ^ y % 2 ^ w ≡ v → a % 2 ^ w * 2 ^ count b % 2 ^ w ≡ v
long_left w a b x y v h p q l m e = ap (λ n. n * 2 ^ count b % 2 ^ w) (cut_is w a x p l) ∙ (left_alike w x (count b) y h (count_law b y q m) ∙ e)

pub long_right : (w a b x y v : ℕ) → w ≤ 64 → a ≡ x → b ≡ y → x < 2 ^ w → y < 2 ^ 64 → x / 2 ^ y ≡ v → a % 2 ^ w / 2 ^ count b ≡ v
long_right w a b x y v h p q l m e = ap (λ n. n / 2 ^ count b) (cut_is w a x p l) ∙ (right_alike w x (count b) y h l (count_law b y q m) ∙ e)

pub long_signed : (w a b x y v : ℕ) → 1 ≤ w → w ≤ 64 → a ≡ x → b ≡ y → x < 2 ^ w → y < 2 ^ 64 → shifted w x y ≡ v → shifted w (a % 2 ^ w) (count b) ≡ v
long_signed w a b x y v g h p q l m e = ap (λ n. shifted w n (count b)) (cut_is w a x p l) ∙ (signed_alike w x (count b) y g h (count_law b y q m) ∙ e)

-- ---- an op at its number and its count
pub at_both : (g : ℕ → ℕ → ℕ) (m n x y v : ℕ) → m ≡ x → n ≡ y → g x y ≡ v → g m n ≡ v
at_both g m n x y v p q e = ap (λ k. g k n) p ∙ (ap (g x) q ∙ e)

-- what f computes of halves and a count is what g computes of the whole
pub of_shift : (f : ℕ → ℕ → ℕ → ℕ) (g : ℕ → ℕ → ℕ) → ((h l s : ℕ) → h < 2 ^ 32 → l < 2 ^ 32 → s < 2 ^ 32 → f h l s ≡ g (h * 2 ^ 32 + l) s) →
    (a b x y v : ℕ) → a ≡ x → b ≡ y → x < 2 ^ 64 → y < 2 ^ 32 → g x y ≡ v → f (hi a) (lo a) (b % 2 ^ 32) ≡ v
of_shift f g s a b x y v p q l m e =
    s (hi a) (lo a) (b % 2 ^ 32) (hi_below a) (lo_below a) (mod_below b (2 ^ 32) (omega arith)) ∙
    (ap (λ n. g n (b % 2 ^ 32)) (whole a x p l) ∙ (ap (g x) (cut_is 32 b y q m) ∙ e))

-- ---- the rotation
turned_none : (x : ℕ) → x < 18446744073709551616 → bit_or (x * 2 ^ 0 % 2 ^ 64) (x / 2 ^ 0) ≡ x * 2 ^ 0 % 2 ^ 64 + x / 2 ^ 64
turned_none x l =
    let a : x * 1 % 18446744073709551616 ≡ x = omega arith in
    let b : x / 1 ≡ x = omega arith in
    let d : x ≡ x * 1 % 18446744073709551616 + x / 18446744073709551616 = omega arith in
    ap (λ k. bit_or k (x / 1)) a ∙ (ap (λ k. bit_or x k) b ∙ (or_self x ∙ d))

turned_some : (x j : ℕ) → x < 2 ^ 64 → j ≤ 64 → bit_or (x * 2 ^ j % 2 ^ 64) (x / 2 ^ (64 - j)) ≡ x * 2 ^ j % 2 ^ 64 + x / 2 ^ (64 - j)
turned_some x j l h =
    let p : 2 ^ 64 ≡ 2 ^ (64 - j) * 2 ^ j = pow_split j 64 h in
    let e : x * 2 ^ j % 2 ^ 64 ≡ x % 2 ^ (64 - j) * 2 ^ j = ap (λ k. x * 2 ^ j % k) p ∙ low_half (2 ^ (64 - j)) (2 ^ j) x (pow_pos (64 - j)) (pow_pos j) in
    let b : x / 2 ^ (64 - j) < 2 ^ j = div_below x (2 ^ (64 - j)) (2 ^ j) (pow_pos (64 - j)) (omega (arith, p)) in
    ap (λ k. bit_or k (x / 2 ^ (64 - j))) e ∙ (or_shifted (x % 2 ^ (64 - j)) j (x / 2 ^ (64 - j)) b ∙ ap (λ k. k + x / 2 ^ (64 - j)) (sym e))

turned_law : (x j c : ℕ) → x < 2 ^ 64 → j < 64 → c ≡ (64 - j) % 64 → bit_or (x * 2 ^ j % 2 ^ 64) (x / 2 ^ c) ≡ x * 2 ^ j % 2 ^ 64 + x / 2 ^ (64 - j)
turned_law x zero c l h e = let z : c ≡ 0 = omega arith in ap (λ k. bit_or (x * 2 ^ 0 % 2 ^ 64) (x / 2 ^ k)) z ∙ turned_none x l
turned_law x (suc j) c l h e =
    let z : c ≡ 64 - suc j = omega arith in
    ap (λ k. bit_or (x * 2 ^ suc j % 2 ^ 64) (x / 2 ^ k)) z ∙ turned_some x (suc j) l (omega arith)

-- the count, and the count that is left
count_up : (k : ℕ) → bit_and k 63 % 2 ^ 32 ≡ k % 64
count_up k = ap (λ n. n % 2 ^ 32) (and_mask k 6) ∙ (let e : k % 64 % 4294967296 ≡ k % 64 = omega arith in e)

count_down : (k : ℕ) → k < 2 ^ 32 → bit_and ((2 ^ 32 - k) % 2 ^ 32 % 2 ^ 32) 63 % 2 ^ 32 ≡ (64 - k % 64) % 64
count_down k l = count_up ((2 ^ 32 - k) % 2 ^ 32 % 2 ^ 32) ∙ down k l
  where
    down : (k : ℕ) → k < 4294967296 → (4294967296 - k) % 4294967296 % 4294967296 % 64 ≡ (64 - k % 64) % 64
    down k l = omega arith

abbrev pub turned_by : ℕ → ℕ → ℕ
turned_by x k =
    bit_or (x * 2 ^ (bit_and k 63 % 2 ^ 32) % 2 ^ 64 % 2 ^ 64) (x / 2 ^ (bit_and ((2 ^ 32 - k) % 2 ^ 32 % 2 ^ 32) 63 % 2 ^ 32) % 2 ^ 64)

rotate_is : (x k : ℕ) → x < 2 ^ 64 → k < 2 ^ 32 → turned_by x k ≡ x * 2 ^ (k % 64) % 2 ^ 64 + x % 2 ^ 64 / 2 ^ (64 - k % 64)
rotate_is x k l m =
    let j : k % 64 < 64 = mod_below k 64 (omega arith) in
    let c : ℕ = bit_and ((2 ^ 32 - k) % 2 ^ 32 % 2 ^ 32) 63 % 2 ^ 32 in
    let d : x / 2 ^ c ≤ x = div-le_self x (2 ^ c) in
    let b : x / 2 ^ c < 18446744073709551616 = omega arith in
    ap (λ n. bit_or n (x / 2 ^ c % 2 ^ 64)) (mod-mod (x * 2 ^ (bit_and k 63 % 2 ^ 32)) (2 ^ 64) ∙ ap (λ n. x * 2 ^ n % 2 ^ 64) (count_up k)) ∙
    (ap (λ n. bit_or (x * 2 ^ (k % 64) % 2 ^ 64) n) (mod-eq_of_lt b) ∙
    (turned_law x (k % 64) c l j (count_down k m) ∙ ap (λ n. x * 2 ^ (k % 64) % 2 ^ 64 + n / 2 ^ (64 - k % 64)) (sym (mod-eq_of_lt l))))

pub rotate_law : (a b x k v : ℕ) → a ≡ x → b ≡ k → x < 2 ^ 64 → k < 2 ^ 32 → x * 2 ^ (k % 64) % 2 ^ 64 + x % 2 ^ 64 / 2 ^ (64 - k % 64) ≡ v →
    turned_by (a % 2 ^ 64) (b % 2 ^ 32) ≡ v
rotate_law a b x k v p q l m e =
    ap (λ n. turned_by n (b % 2 ^ 32)) (cut_is 64 a x p l) ∙ (ap (λ n. turned_by x n) (cut_is 32 b k q m) ∙ (rotate_is x k l m ∙ e))
