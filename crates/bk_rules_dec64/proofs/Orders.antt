-- Comparisons of numbers of 64 bits, from their halves.
use Rattle.std.proofs.Common.{◌≡◌, ◌≢◌, ℕ, ◌+◌, ◌*◌, ◌%◌, ◌^◌, ◌<◌, ◌≤◌, refl, ap, sym, ◌∙◌, arith, inl, inr, bit_and, bit_or, bit_xor, Bool, true, false, not, nat_lt, nat_le, ◌==◌, ◌&&◌, ◌||◌}
use Rattle.std.specs.Int.Bits.{xor_self, xor_add_and}
use Rattle.std.proofs.lemmas.Bool.{cases_lt}
use Rattle.std.proofs.lemmas.Bool.Decides.{nat_tests}
use Rattle.std.proofs.lemmas.Nat.{and_le_l, and_le_r, le_or_l, le_or_r, or_lt, xor_lt}
use Rattle.std.proofs.Math.Nat.{mod-eq_of_lt}
use Rattle.bk_ops.specs.Arithmetic.{as_bit, less}
use Rattle.bk_ops.proofs.Order.{turned, turned_less, not_lt}
use Rattle.bk_rules_dec64.proofs.Halves.{Halves}

-- ---- equality
same_number : (a b : ℕ) → bit_xor a b ≡ 0 → a ≡ b
same_number a b z = omega (arith, xor_add_and a b, and_le_l a b, and_le_r a b)

-- all bits in which two numbers differ
abbrev pub unlike : ℕ → ℕ → ℕ → ℕ → ℕ
unlike h l k m = bit_or (bit_xor h k % 2 ^ 32) (bit_xor l m % 2 ^ 32) % 2 ^ 32

unlike_is : (h l k m : ℕ) → h < 2 ^ 32 → l < 2 ^ 32 → k < 2 ^ 32 → m < 2 ^ 32 → unlike h l k m ≡ bit_or (bit_xor h k) (bit_xor l m)
unlike_is h l k m a b c d =
    let p : bit_xor h k < 2 ^ 32 = xor_lt 32 h k a c in
    let q : bit_xor l m < 2 ^ 32 = xor_lt 32 l m b d in
    ap (λ n. bit_or n (bit_xor l m % 2 ^ 32) % 2 ^ 32) (mod-eq_of_lt p) ∙
    (ap (λ n. bit_or (bit_xor h k) n % 2 ^ 32) (mod-eq_of_lt q) ∙ mod-eq_of_lt (or_lt 32 (bit_xor h k) (bit_xor l m) p q))

alike_none : (h l : ℕ) → bit_or (bit_xor h h) (bit_xor l l) ≡ 0
alike_none h l = ap (λ n. bit_or n (bit_xor l l)) (xor_self h) ∙ ap (λ n. bit_or 0 n) (xor_self l)

unlike_some : (h l k m : ℕ) → bit_or (bit_xor h k) (bit_xor l m) ≡ 0 → h * 4294967296 + l ≡ k * 4294967296 + m
unlike_some h l k m z =
    let p : bit_xor h k ≡ 0 = omega (arith, le_or_l (bit_xor h k) (bit_xor l m)) in
    let q : bit_xor l m ≡ 0 = omega (arith, le_or_r (bit_xor h k) (bit_xor l m)) in
    let r : h ≡ k = same_number h k p in
    let s : l ≡ m = same_number l m q in
    omega arith

split : (h l k m : ℕ) → l < 4294967296 → m < 4294967296 → h * 4294967296 + l ≡ k * 4294967296 + m → h ≡ k
split h l k m b d e = omega arith

both_tests : (u x y : ℕ) → (u ≡ 0 → x ≡ y) → (x ≡ y → u ≡ 0) → (u == 0) ≡ (x == y)
both_tests u x y f g =
    elim (cases_lt 0 u) [
      | inl p ↦ elim (cases_lt x y) [
        | inl i ↦ grind (arith, nat_tests)
        | inr i ↦ elim (cases_lt y x) [
          | inl j ↦ grind (arith, nat_tests)
          | inr j ↦ (let z : u ≡ 0 = g (omega arith) in absurd (omega arith))
        ]
      ]
      | inr p ↦ (let z : u ≡ 0 = omega arith in let q : x ≡ y = f z in grind (arith, nat_tests))
    ]

test_is : (h l k m : ℕ) → h < 2 ^ 32 → l < 2 ^ 32 → k < 2 ^ 32 → m < 2 ^ 32 → (unlike h l k m == 0) ≡ (h * 2 ^ 32 + l == k * 2 ^ 32 + m)
test_is h l k m a b c d =
    ap (λ n. n == 0) (unlike_is h l k m a b c d) ∙
    both_tests (bit_or (bit_xor h k) (bit_xor l m)) (h * 2 ^ 32 + l) (k * 2 ^ 32 + m) (unlike_some h l k m)
    (λ e. let p : h ≡ k = split h l k m b d e in let q : l ≡ m = omega arith in ap (λ n. bit_or (bit_xor n k) (bit_xor l m)) p ∙ (ap (λ n. bit_or (bit_xor k k) (bit_xor n m)) q ∙ alike_none k m))

pub equal_law : Halves (λ h l k m. as_bit (unlike h l k m == 0)) (λ x y. as_bit (x == y))
equal_law h l k m a b c d = ap as_bit (test_is h l k m a b c d)

pub unequal_law : Halves (λ h l k m. as_bit (not (unlike h l k m == 0))) (λ x y. as_bit (not (x == y)))
unequal_law h l k m a b c d = ap (λ t. as_bit (not t)) (test_is h l k m a b c d)

-- ---- order
abbrev pub either : Bool → Bool → Bool → ℕ
either p q r = bit_or (as_bit p % 2) (bit_and (as_bit q % 2) (as_bit r % 2) % 2)

one_bit : (p q r : Bool) → either p q r ≡ as_bit (p || q && r)
one_bit true true true = refl
one_bit true true false = refl
one_bit true false true = refl
one_bit true false false = refl
one_bit false true true = refl
one_bit false true false = refl
one_bit false false true = refl
one_bit false false false = refl

below_is : (h l k m : ℕ) → l < 4294967296 → m < 4294967296 → (nat_lt h k || (h == k) && nat_lt l m) ≡ nat_lt (h * 4294967296 + l) (k * 4294967296 + m)
below_is h l k m b d =
    elim (cases_lt h k) [
      | inl i ↦ (let p : h * 4294967296 + l < k * 4294967296 + m = omega arith in grind (arith, nat_tests))
      | inr i ↦ elim (cases_lt k h) [
        | inl j ↦ (let p : k * 4294967296 + m < h * 4294967296 + l = omega arith in grind (arith, nat_tests))
        | inr j ↦ (let q : h ≡ k = omega arith in elim (cases_lt l m) [
          | inl o ↦ (let p : h * 4294967296 + l < k * 4294967296 + m = omega arith in grind (arith, nat_tests))
          | inr o ↦ (let p : k * 4294967296 + m ≤ h * 4294967296 + l = omega arith in grind (arith, nat_tests))
        ])
      ]
    ]

at_most_is : (h l k m : ℕ) → l < 4294967296 → m < 4294967296 → (nat_lt h k || (h == k) && nat_le l m) ≡ nat_le (h * 4294967296 + l) (k * 4294967296 + m)
at_most_is h l k m b d =
    elim (cases_lt h k) [
      | inl i ↦ (let p : h * 4294967296 + l < k * 4294967296 + m = omega arith in grind (arith, nat_tests))
      | inr i ↦ elim (cases_lt k h) [
        | inl j ↦ (let p : k * 4294967296 + m < h * 4294967296 + l = omega arith in grind (arith, nat_tests))
        | inr j ↦ (let q : h ≡ k = omega arith in elim (cases_lt m l) [
          | inl o ↦ (let p : k * 4294967296 + m < h * 4294967296 + l = omega arith in grind (arith, nat_tests))
          | inr o ↦ (let p : h * 4294967296 + l ≤ k * 4294967296 + m = omega arith in grind (arith, nat_tests))
        ])
      ]
    ]

-- the sign bit stands in the high half
turned_whole : (h l : ℕ) → h < 2 ^ 32 → l < 2 ^ 32 → turned 64 (h * 2 ^ 32 + l) ≡ turned 32 h * 2 ^ 32 + l
turned_whole h l a b = shifted h l a b
  where
    shifted : (h l : ℕ) → h < 4294967296 → l < 4294967296 → (h * 4294967296 + l + 9223372036854775808) % 18446744073709551616 ≡ (h + 2147483648) % 4294967296 * 4294967296 + l
    shifted h l a b = omega arith

turned_alike : (h k : ℕ) → h < 2 ^ 32 → k < 2 ^ 32 → (h == k) ≡ (turned 32 h == turned 32 k)
turned_alike h k a c = both h k a c
  where
    both : (h k : ℕ) → h < 4294967296 → k < 4294967296 → (h == k) ≡ ((h + 2147483648) % 4294967296 == (k + 2147483648) % 4294967296)
    both h k a c =
        elim (cases_lt h k) [
          | inl i ↦ (let p : (h + 2147483648) % 4294967296 ≢ (k + 2147483648) % 4294967296 = (λ q. absurd (omega arith)) in grind (arith, nat_tests))
          | inr i ↦ elim (cases_lt k h) [
            | inl j ↦ (let p : (h + 2147483648) % 4294967296 ≢ (k + 2147483648) % 4294967296 = (λ q. absurd (omega arith)) in grind (arith, nat_tests))
            | inr j ↦ (let q : h ≡ k = omega arith in grind (arith, nat_tests))
          ]
        ]

fits_whole : (h l : ℕ) → h < 4294967296 → l < 4294967296 → h * 4294967296 + l < 18446744073709551616
fits_whole h l a b = omega arith

-- the order of signed numbers is that of their turned numbers
less_is : (h l k m : ℕ) → h < 2 ^ 32 → l < 2 ^ 32 → k < 2 ^ 32 → m < 2 ^ 32 →
    less 64 (h * 2 ^ 32 + l) (k * 2 ^ 32 + m) ≡ nat_lt (turned 32 h * 2 ^ 32 + l) (turned 32 k * 2 ^ 32 + m)
less_is h l k m a b c d =
    turned_less 64 (h * 2 ^ 32 + l) (k * 2 ^ 32 + m) (omega arith) (fits_whole h l a b) (fits_whole k m c d) ∙
    (ap (λ n. nat_lt n (turned 64 (k * 2 ^ 32 + m))) (turned_whole h l a b) ∙ ap (λ n. nat_lt (turned 32 h * 2 ^ 32 + l) n) (turned_whole k m c d))

pub less_unsigned_law : Halves (λ h l k m. either (nat_lt h k) (h == k) (nat_lt l m)) (λ x y. as_bit (nat_lt x y))
less_unsigned_law h l k m a b c d = one_bit (nat_lt h k) (h == k) (nat_lt l m) ∙ ap as_bit (below_is h l k m b d)

pub at_most_unsigned_law : Halves (λ h l k m. either (nat_lt h k) (h == k) (nat_le l m)) (λ x y. as_bit (nat_le x y))
at_most_unsigned_law h l k m a b c d = one_bit (nat_lt h k) (h == k) (nat_le l m) ∙ ap as_bit (at_most_is h l k m b d)

-- the test of the high halves, on turned numbers
high_less : (h k : ℕ) (t : Bool) → h < 2 ^ 32 → k < 2 ^ 32 →
    (less 32 h k || (h == k) && t) ≡ (nat_lt (turned 32 h) (turned 32 k) || (turned 32 h == turned 32 k) && t)
high_less h k t a c =
    ap (λ p. p || (h == k) && t) (turned_less 32 h k (omega arith) a c) ∙
    ap (λ p. nat_lt (turned 32 h) (turned 32 k) || p && t) (turned_alike h k a c)

pub less_law : Halves (λ h l k m. either (less 32 h k) (h == k) (nat_lt l m)) (λ x y. as_bit (less 64 x y))
less_law h l k m a b c d =
    one_bit (less 32 h k) (h == k) (nat_lt l m) ∙
    ap as_bit (high_less h k (nat_lt l m) a c ∙ (below_is (turned 32 h) l (turned 32 k) m b d ∙ sym (less_is h l k m a b c d)))

pub at_most_law : Halves (λ h l k m. either (less 32 h k) (h == k) (nat_le l m)) (λ x y. as_bit (not (less 64 y x)))
at_most_law h l k m a b c d =
    one_bit (less 32 h k) (h == k) (nat_le l m) ∙
    ap as_bit (high_less h k (nat_le l m) a c ∙
    (at_most_is (turned 32 h) l (turned 32 k) m b d ∙
    (sym (not_lt (turned 32 k * 2 ^ 32 + m) (turned 32 h * 2 ^ 32 + l)) ∙ ap (λ t. not t) (sym (less_is k m h l c d a b)))))
