-- Laws of equality by the bits in which two numbers differ, and of turned bits.
use Rattle.std.proofs.Common.{◌≡◌, ℕ, ◌-◌, ◌%◌, ◌^◌, ◌≤◌, refl, ap, ◌∙◌, arith, Bool, true, false, ◌==◌, not, bit_xor}
use Rattle.std.specs.Int.Bits.{xor_add_and, xor_self, xor_zero_l}
use Rattle.std.proofs.lemmas.Bool.Decides.{nat_tests}
use Rattle.std.proofs.lemmas.Nat.{and_le_l, and_le_r, xor_mod, mod_below, pow_pos}
use Rattle.std.proofs.Math.Nat.{mod-mod}
use Rattle.bk_ops.specs.Arithmetic.{as_bit}
use Rattle.bk_rules_words.proofs.LowBits.{low, low_xor, low_complement, xor_ones}
use Rattle.bk_rules_words.proofs.Extended.{zeros}

-- ---- equality by the bits in which two numbers differ
same_bits : (a b : ℕ) → bit_xor a b ≡ 0 → a ≡ b
same_bits a b e = omega (arith, xor_add_and a b, e, and_le_l a b, and_le_r a b)

no_bits : (a b : ℕ) → a ≡ b → bit_xor a b ≡ 0
no_bits a b e = ap (λ k. bit_xor k b) e ∙ xor_self b

pub differ_test : (a b : ℕ) → (bit_xor a b == 0) ≡ (a == b)
differ_test a b = grind (arith, nat_tests, same_bits a b, no_bits a b)

-- the bits that two words differ in
pub differing : (x y z : ℕ) → z % 2 ^ 64 ≡ bit_xor (x % 2 ^ 64) (y % 2 ^ 64) % 2 ^ 64 → z % 2 ^ 64 ≡ bit_xor (x % 2 ^ 64) (y % 2 ^ 64)
differing x y z e = e ∙ (xor_mod (x % 2 ^ 64) (y % 2 ^ 64) 64 ∙ rw (mod-mod x (2 ^ 64), mod-mod y (2 ^ 64)) refl)

pub differing_low : (w x y z u : ℕ) → w ≤ 64 → z % 2 ^ 64 ≡ bit_xor (x % 2 ^ 64) (y % 2 ^ 64) % 2 ^ 64 → u % 2 ^ 64 ≡ z % 2 ^ w % 2 ^ 64 →
    u % 2 ^ 64 ≡ bit_xor (x % 2 ^ w) (y % 2 ^ w)
differing_low w x y z u h e f =
    zeros w 64 z u h f ∙ (low_xor w 64 x y z h e ∙ (xor_mod (x % 2 ^ w) (y % 2 ^ w) w ∙ rw (mod-mod x (2 ^ w), mod-mod y (2 ^ w)) refl))

pub equal_word : (x y z n : ℕ) → z % 2 ^ 64 ≡ bit_xor (x % 2 ^ 64) (y % 2 ^ 64) % 2 ^ 64 → n % 2 ^ 64 ≡ as_bit (z % 2 ^ 64 == 0) % 2 ^ 64 →
    n % 2 ≡ as_bit (x % 2 ^ 64 == y % 2 ^ 64) % 2
equal_word x y z n e f =
    low 1 64 n _ (omega arith) f ∙ ap (λ (t : Bool). as_bit t % 2) (ap (λ k. k == 0) (differing x y z e) ∙ differ_test (x % 2 ^ 64) (y % 2 ^ 64))

pub unequal_word : (x y z n : ℕ) → z % 2 ^ 64 ≡ bit_xor (x % 2 ^ 64) (y % 2 ^ 64) % 2 ^ 64 → n % 2 ^ 64 ≡ as_bit (not (z % 2 ^ 64 == 0)) % 2 ^ 64 →
    n % 2 ≡ as_bit (not (x % 2 ^ 64 == y % 2 ^ 64)) % 2
unequal_word x y z n e f =
    low 1 64 n _ (omega arith) f ∙ ap (λ (t : Bool). as_bit (not t) % 2) (ap (λ k. k == 0) (differing x y z e) ∙ differ_test (x % 2 ^ 64) (y % 2 ^ 64))

pub equal_low : (w x y z u n : ℕ) → w ≤ 64 → z % 2 ^ 64 ≡ bit_xor (x % 2 ^ 64) (y % 2 ^ 64) % 2 ^ 64 → u % 2 ^ 64 ≡ z % 2 ^ w % 2 ^ 64 →
    n % 2 ^ 64 ≡ as_bit (u % 2 ^ 64 == 0) % 2 ^ 64 → n % 2 ≡ as_bit (x % 2 ^ w == y % 2 ^ w) % 2
equal_low w x y z u n h e f g =
    low 1 64 n _ (omega arith) g ∙ ap (λ (t : Bool). as_bit t % 2) (ap (λ k. k == 0) (differing_low w x y z u h e f) ∙ differ_test (x % 2 ^ w) (y % 2 ^ w))

pub unequal_low : (w x y z u n : ℕ) → w ≤ 64 → z % 2 ^ 64 ≡ bit_xor (x % 2 ^ 64) (y % 2 ^ 64) % 2 ^ 64 → u % 2 ^ 64 ≡ z % 2 ^ w % 2 ^ 64 →
    n % 2 ^ 64 ≡ as_bit (not (u % 2 ^ 64 == 0)) % 2 ^ 64 → n % 2 ≡ as_bit (not (x % 2 ^ w == y % 2 ^ w)) % 2
unequal_low w x y z u n h e f g =
    low 1 64 n _ (omega arith) g ∙ ap (λ (t : Bool). as_bit (not t) % 2) (ap (λ k. k == 0) (differing_low w x y z u h e f) ∙ differ_test (x % 2 ^ w) (y % 2 ^ w))

-- ---- the other truth value
turned_bit : (t : Bool) → bit_xor (as_bit t % 2 ^ 64) 1 ≡ as_bit (not t)
turned_bit true = xor_self 1
turned_bit false = xor_zero_l 1

pub turned : (t : Bool) (z n : ℕ) → z % 2 ^ 64 ≡ as_bit t % 2 ^ 64 → n % 2 ^ 64 ≡ bit_xor (z % 2 ^ 64) 1 % 2 ^ 64 → n % 2 ≡ as_bit (not t) % 2
turned t z n e f = low 1 64 n _ (omega arith) f ∙ ap (λ k. k % 2) (ap (λ k. bit_xor k 1) e ∙ turned_bit t)

-- ---- all bits turned
pub low_com : (w x n : ℕ) → w ≤ 64 → n % 2 ^ 64 ≡ bit_xor (x % 2 ^ 64) 18446744073709551615 % 2 ^ 64 → n % 2 ^ w ≡ (2 ^ w - 1 - x % 2 ^ w) % 2 ^ w
low_com w x n h e = low_complement w 64 x n h (e ∙ ap (λ k. k % 2 ^ 64) (xor_ones 64 (x % 2 ^ 64) (mod_below x (2 ^ 64) (pow_pos 64))))
