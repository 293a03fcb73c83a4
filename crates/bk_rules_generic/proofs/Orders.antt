-- Laws of comparisons: of constants that their ops keep, and of a number with itself.
use Rattle.std.proofs.Common.{◌≡◌, ℕ, suc, ◌+◌, ◌-◌, ◌%◌, ◌^◌, ◌<◌, ◌≤◌, refl, ap, sym, ◌∙◌, arith, inl, inr, ◌⊎◌, ℤ, pos, negsuc, Bool, true, false, not, nat_lt, nat_le, ◌==◌, int_lt, int_le}
use Rattle.std.proofs.lemmas.Bool.{cases_lt, eq-eqb}
use Rattle.std.proofs.lemmas.Bool.Decides.{nat_tests, eqb_tells}
use Rattle.std.proofs.Math.Nat.{mod-eq_of_lt}
use Rattle.std.proofs.Math.Pow.{pow_mono}
use Rattle.bk_num.specs.Word.{signed, residue}
use Rattle.bk_ops.specs.Arithmetic.{as_bit, less}
use Rattle.bk_ops.proofs.LowBits.{residue-low}
use Rattle.bk_ops.proofs.Order.{signed_low, signed_high}
use Rattle.bk_rule.specs.Expressions.{word, truth}

-- a truth value as an AuxInt, kept in one bit
pub bit_of : (b : Bool) → residue 1 (truth b) ≡ as_bit b
bit_of true = refl
bit_of false = refl

-- ---- constants: c is what the op of w bits keeps, and x its number
-- two tests for equality of equivalent equations
same_test : (a b c d : ℕ) → (a ≡ b → c ≡ d) → (c ≡ d → a ≡ b) → (a == b) ≡ (c == d)
same_test a b c d p q =
    elim (eqb_tells a b) [
      | inl (t, e) ↦ t ∙ sym (eq-eqb c d (p e))
      | inr (t, n) ↦ elim (eqb_tells c d) [
        | inl (s, f) ↦ absurd (n (q f))
        | inr (s, m) ↦ t ∙ sym s
      ]
    ]

pub eq_kept : (w : ℕ) (c d : ℤ) (x y : ℕ) → w ≤ 64 → signed w (residue w c) ≡ c → signed w (residue w d) ≡ d → residue w c ≡ x → residue w d ≡ y →
    (word c == word d) ≡ (x == y)
eq_kept w c d x y h k m p q =
    same_test (word c) (word d) x y
    (λ e. sym p ∙ (sym (residue-low w 64 c h) ∙ (ap (λ n. n % 2 ^ w) e ∙ (residue-low w 64 d h ∙ q))))
    (λ e. ap word (sym k ∙ (ap (signed w) (p ∙ (e ∙ sym q)) ∙ m)))

pub less_kept : (w : ℕ) (c d : ℤ) (x y : ℕ) → signed w (residue w c) ≡ c → signed w (residue w d) ≡ d → residue w c ≡ x → residue w d ≡ y →
    int_lt c d ≡ less w x y
less_kept w c d x y k m p q =
    ap (λ z. int_lt z d) (sym k ∙ ap (signed w) p) ∙ ap (λ z. int_lt (signed w x) z) (sym m ∙ ap (signed w) q)

le_is : (c d : ℤ) → int_le c d ≡ not (int_lt d c)
le_is (pos a) (pos b) = grind (arith, nat_tests)
le_is (pos a) (negsuc b) = refl
le_is (negsuc a) (pos b) = refl
le_is (negsuc a) (negsuc b) = grind (arith, nat_tests)

pub le_kept : (w : ℕ) (c d : ℤ) (x y : ℕ) → signed w (residue w c) ≡ c → signed w (residue w d) ≡ d → residue w c ≡ x → residue w d ≡ y →
    int_le c d ≡ not (less w y x)
le_kept w c d x y k m p q = le_is c d ∙ ap not (less_kept w d c y x m k q p)

-- the word of a constant, from its number
Spread : ℕ → ℕ → ℕ → Type 0
Spread w x u = ((x < 2 ^ (w - 1)) × (u ≡ x)) ⊎ ((2 ^ (w - 1) ≤ x) × (u ≡ x + (2 ^ 64 - 2 ^ w)))

spread : (w : ℕ) (c : ℤ) (x : ℕ) → 1 ≤ w → w ≤ 64 → x < 2 ^ w → signed w (residue w c) ≡ c → residue w c ≡ x → Spread w x (word c)
unfolding Spread
spread w c x l h b k p =
    let m : 2 ^ w ≤ 2 ^ 64 = pow_mono {j = 64} h in
    let s : signed w x ≡ c = ap (signed w) (sym p) ∙ k in
    elim (cases_lt x (2 ^ (w - 1))) [
      | inl i ↦ inl (i, ap word (sym s ∙ signed_low w x l i) ∙ mod-eq_of_lt (omega arith))
      | inr i ↦
          (let q : (2 ^ w - suc x) % 2 ^ 64 ≡ 2 ^ w - suc x = mod-eq_of_lt (omega arith) in
          inr (i, ap word (sym s ∙ signed_high w x i b) ∙ omega arith))
    ]

pub less_unsigned_kept : (w : ℕ) (c d : ℤ) (x y : ℕ) → 1 ≤ w → w ≤ 64 → x < 2 ^ w → y < 2 ^ w → signed w (residue w c) ≡ c → signed w (residue w d) ≡ d →
    residue w c ≡ x → residue w d ≡ y → nat_lt (word c) (word d) ≡ nat_lt x y
unfolding Spread
less_unsigned_kept w c d x y l h a b k m p q = go (word c) (word d) (spread w c x l h a k p) (spread w d y l h b m q)
  where
    go : (u v : ℕ) → Spread w x u → Spread w y v → nat_lt u v ≡ nat_lt x y
    go u v (inl (i, r)) (inl (j, s)) = grind (arith, nat_tests)
    go u v (inl (i, r)) (inr (j, s)) = grind (arith, nat_tests)
    go u v (inr (i, r)) (inl (j, s)) = let m : 2 ^ w ≤ 2 ^ 64 = pow_mono {j = 64} h in grind (arith, nat_tests)
    go u v (inr (i, r)) (inr (j, s)) = grind (arith, nat_tests)

le_unsigned_is : (x y : ℕ) → nat_le x y ≡ not (nat_lt y x)
le_unsigned_is x y = grind (arith, nat_tests)

pub le_unsigned_kept : (w : ℕ) (c d : ℤ) (x y : ℕ) → 1 ≤ w → w ≤ 64 → x < 2 ^ w → y < 2 ^ w → signed w (residue w c) ≡ c → signed w (residue w d) ≡ d →
    residue w c ≡ x → residue w d ≡ y → nat_le (word c) (word d) ≡ nat_le x y
le_unsigned_kept w c d x y l h a b k m p q =
    le_unsigned_is (word c) (word d) ∙ (ap not (less_unsigned_kept w d c y x l h b a m k q p) ∙ sym (le_unsigned_is x y))

-- ---- a number and itself
never_below : (z : ℤ) → int_lt z z ≡ false
never_below (pos n) = grind (arith, nat_tests)
never_below (negsuc n) = grind (arith, nat_tests)

pub equal_same : (x y v : ℕ) → x ≡ y → as_bit (x == y) ≡ v → 1 ≡ v
equal_same x y v q e = ap as_bit (sym (eq-eqb x y q)) ∙ e

pub unequal_same : (x y v : ℕ) → x ≡ y → as_bit (not (x == y)) ≡ v → 0 ≡ v
unequal_same x y v q e = ap (λ b. as_bit (not b)) (sym (eq-eqb x y q)) ∙ e

-- x is not less than y
apart : (w x y : ℕ) → x ≡ y → less w x y ≡ false
apart w x y q = ap (λ n. less w n y) q ∙ never_below (signed w y)

pub below_same : (w x y v : ℕ) → x ≡ y → as_bit (less w x y) ≡ v → 0 ≡ v
below_same w x y v q e = ap as_bit (sym (apart w x y q)) ∙ e

pub at_least_same : (w x y v : ℕ) → x ≡ y → as_bit (not (less w y x)) ≡ v → 1 ≡ v
at_least_same w x y v q e = ap (λ b. as_bit (not b)) (sym (apart w y x (sym q))) ∙ e

pub below_unsigned_same : (x y v : ℕ) → x ≡ y → as_bit (nat_lt x y) ≡ v → 0 ≡ v
below_unsigned_same x y v q e = let f : nat_lt x y ≡ false = grind (arith, nat_tests) in ap as_bit (sym f) ∙ e

pub at_least_unsigned_same : (x y v : ℕ) → x ≡ y → as_bit (nat_le x y) ≡ v → 1 ≡ v
at_least_unsigned_same x y v q e = let f : nat_le x y ≡ true = grind (arith, nat_tests) in ap as_bit (sym f) ∙ e

-- ---- truth values
pub not_const_law : (n x v : ℕ) → n ≡ x → x < 2 → 1 - x ≡ v → (1 + (2 - n)) % 2 ≡ v
not_const_law n x v q l e = omega arith
