-- Laws of truth values and of the lowest bit, in words of k bits.
use Rattle.std.proofs.Common.{◌≡◌, ℕ, zero, suc, ◌-◌, ◌%◌, ◌^◌, ◌<◌, ◌≤◌, ap, sym, ◌∙◌, arith, ◌==◌, not, bit_and, bit_xor}
use Rattle.std.specs.Int.Bits.{xor_self, xor_zero_l, xor_zero_r}
use Rattle.std.proofs.lemmas.Nat.{and_mask}
use Rattle.std.proofs.Math.Nat.{mod-eq_of_lt}
use Rattle.std.proofs.Math.Pow.{pow_mono}
use Rattle.bk_num.proofs.Powers.{mod_mod}
use Rattle.bk_ops.specs.Arithmetic.{as_bit}
use Rattle.bk_rules_words.proofs.LowBits.{low, low_xor}

differ_bits : (a b : ℕ) → a < 2 → b < 2 → bit_xor a b ≡ as_bit (not (a == b))
differ_bits zero zero l m = xor_zero_l 0
differ_bits zero (suc zero) l m = xor_zero_l 1
differ_bits (suc zero) zero l m = xor_zero_r 1
differ_bits (suc zero) (suc zero) l m = xor_self 1
differ_bits (suc (suc a)) b l m = absurd (omega arith)
differ_bits zero (suc (suc b)) l m = absurd (omega arith)
differ_bits (suc zero) (suc (suc b)) l m = absurd (omega arith)

bit_below : (x : ℕ) → x % 2 < 2
bit_below x = omega arith

pub unequal_bits : (k x y n : ℕ) → 1 ≤ k → n % 2 ^ k ≡ bit_xor (x % 2 ^ k) (y % 2 ^ k) % 2 ^ k → n % 2 ≡ as_bit (not (x % 2 == y % 2)) % 2
unequal_bits k x y n h e = low_xor 1 k x y n h e ∙ ap (λ i. i % 2) (differ_bits (x % 2) (y % 2) (bit_below x) (bit_below y))

same_again : (a b : ℕ) → a < 2 → b < 2 → bit_xor (bit_xor a b % 2) 1 ≡ as_bit (a == b)
same_again zero zero l m = ap (λ i. bit_xor (i % 2) 1) (xor_zero_l 0) ∙ xor_zero_l 1
same_again zero (suc zero) l m = ap (λ i. bit_xor (i % 2) 1) (xor_zero_l 1) ∙ xor_self 1
same_again (suc zero) zero l m = ap (λ i. bit_xor (i % 2) 1) (xor_zero_r 1) ∙ xor_self 1
same_again (suc zero) (suc zero) l m = ap (λ i. bit_xor (i % 2) 1) (xor_self 1) ∙ xor_zero_l 1
same_again (suc (suc a)) b l m = absurd (omega arith)
same_again zero (suc (suc b)) l m = absurd (omega arith)
same_again (suc zero) (suc (suc b)) l m = absurd (omega arith)

one_again : (k : ℕ) → 1 ≤ k → 1 % 2 ^ k ≡ 1
one_again k h = let p : 2 ^ 1 ≤ 2 ^ k = pow_mono h in mod-eq_of_lt (omega arith)

-- a word with its lowest bit turned
turned_low : (k z n : ℕ) → 1 ≤ k → n % 2 ^ k ≡ bit_xor (z % 2 ^ k) 1 % 2 ^ k → n % 2 ≡ bit_xor (z % 2) 1 % 2
turned_low k z n h e =
    low_xor 1 k z 1 n h (e ∙ ap (λ i. bit_xor (z % 2 ^ k) i % 2 ^ k) (sym (one_again k h)))

pub equal_bits : (k x y z n : ℕ) → 1 ≤ k → z % 2 ^ k ≡ bit_xor (x % 2 ^ k) (y % 2 ^ k) % 2 ^ k → n % 2 ^ k ≡ bit_xor (z % 2 ^ k) 1 % 2 ^ k →
    n % 2 ≡ as_bit (x % 2 == y % 2) % 2
equal_bits k x y z n h e f =
    turned_low k z n h f ∙
    (ap (λ i. bit_xor i 1 % 2) (low_xor 1 k x y z h e) ∙ ap (λ i. i % 2) (same_again (x % 2) (y % 2) (bit_below x) (bit_below y)))

not_bits : (a : ℕ) → a < 2 → bit_xor a 1 ≡ 1 - a
not_bits zero l = xor_zero_l 1
not_bits (suc zero) l = xor_self 1
not_bits (suc (suc a)) l = absurd (omega arith)

pub not_bit : (k x n : ℕ) → 1 ≤ k → n % 2 ^ k ≡ bit_xor (x % 2 ^ k) 1 % 2 ^ k → n % 2 ≡ (1 - x % 2) % 2
not_bit k x n h e = turned_low k x n h e ∙ ap (λ i. i % 2) (not_bits (x % 2) (bit_below x))

pub bit_as_byte : (k x n : ℕ) → 8 ≤ k → n % 2 ^ k ≡ bit_and (x % 2 ^ k) 1 % 2 ^ k → n % 2 ^ 8 ≡ x % 2 % 2 ^ 8
bit_as_byte k x n h e = low 8 k n _ h e ∙ ap (λ i. i % 2 ^ 8) (and_mask (x % 2 ^ k) 1 ∙ mod_mod x 1 k (omega arith))
