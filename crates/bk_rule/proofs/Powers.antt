-- Powers of two and rotated bytes: what the tests for them find.
use Rattle.std.proofs.Common.{◌≡◌, ◌≢◌, ℕ, zero, suc, ◌+◌, ◌*◌, ◌%◌, ◌^◌, ◌<◌, ◌≤◌, refl, ap, sym, ◌∙◌, arith, add-one, inl, inr, Bool, true, false, Option, Some, None}
use Rattle.std.specs.Prelude.{ℤ, pos, negsuc, ◌≤ℤ◌, unsigned_abs, FitsSigned, ◌==◌, if◌then◌else◌}
use Rattle.std.proofs.lemmas.Bool.{cases_lt}
use Rattle.std.proofs.lemmas.Bool.Decides.{nat_tests}
use Rattle.std.proofs.lemmas.Int.{ints}
use Rattle.std.proofs.lemmas.Nat.{pow_pos, one_shl}
use Rattle.std.proofs.Math.Pow.{pow-lt, pow_mono}
use Rattle.std.specs.Int.{w64}
use lib.Signed.{le_z}
use Rattle.bk_num.specs.Word.{rotated}
use Rattle.bk_rule.specs.Expressions.{log2_below, log2_of, rotated_byte, arm_immediate, is_some, is_true, truth}

found : (k e : ℕ) → e < k → log2_below k (2 ^ e) ≡ Some (pos e)
found zero e h = absurd (omega arith)
found (suc k) e h =
    elim (cases_lt e k) [
      | inl l ↦ (let p : 2 ^ e < 2 ^ k = pow-lt l in let r = found k e l in grind (arith, nat_tests))
      | inr l ↦ (let q : e ≡ k = omega arith in grind (arith, nat_tests))
    ]

none : (k e n : ℕ) → 2 ^ e ≤ n → n < 2 * 2 ^ e → n ≢ 2 ^ e → log2_below k n ≡ None
none zero e n a b d = refl
none (suc k) e n a b d =
    let r = none k e n a b d in
    elim (cases_lt k e) [
      | inl l ↦ (let p : 2 ^ k < 2 ^ e = pow-lt l in grind (arith, nat_tests))
      | inr l ↦ elim (cases_lt e k) [
        | inl m ↦ (let p : 2 ^ suc e ≤ 2 ^ k = pow_mono m in grind (arith, nat_tests))
        | inr m ↦ (let q : e ≡ k = omega arith in grind (arith, nat_tests))
      ]
    ]

none_of_zero : (k : ℕ) → log2_below k 0 ≡ None
none_of_zero zero = refl
none_of_zero (suc k) = let p = pow_pos k in let r = none_of_zero k in grind (arith, nat_tests)

pub is_log2 : (x : ℤ) (e : ℕ) → FitsSigned w64 x → le_z x (pos 0) ≡ false → e < 64 → unsigned_abs x ≡ 1 * 2 ^ e % 2 ^ 64 → log2_of x ≡ Some (pos e)
unfolding log2_of
is_log2 (pos n) e f a h b =
    let d : n ≡ 2 ^ e = b ∙ one_shl e 64 h in
    let l : e < 63 =
    elim (cases_lt e 63) [
      | inl m ↦ m
      | inr m ↦ (let p : 2 ^ 63 ≤ 2 ^ e = pow_mono {i = 63} {j = e} m in absurd (omega (arith, f.sfits)))
    ] in
    ap (log2_below 63) d ∙ found 63 e l
is_log2 (negsuc n) e f a h b = cc

pub is_no_log2 : (x : ℤ) (e : ℕ) → le_z x (pos 0) ≡ false → e < 64 → 2 ^ e ≤ unsigned_abs x → unsigned_abs x < 2 * 2 ^ e →
    unsigned_abs x ≢ 1 * 2 ^ e % 2 ^ 64 → log2_of x ≡ None
unfolding log2_of
is_no_log2 (pos n) e z h a b d = none 63 e n a b (λ q. d (q ∙ sym (one_shl e 64 h)))
is_no_log2 (negsuc n) e z h a b d = cc

pub no_log2_below_1 : (x : ℤ) → x ≤ℤ pos 0 → log2_of x ≡ None
unfolding log2_of
no_log2_below_1 (pos n) h = (let e : n ≡ 0 = omega (arith, ints) in ap (log2_below 63) e ∙ none_of_zero 63)
no_log2_below_1 (negsuc n) h = refl

pub next_byte : (k n : ℕ) → rotated_byte k n ≡ false → 256 ≤ rotated 32 n (2 * k) → rotated_byte (k + 1) n ≡ false
next_byte k n h l = rw (add-one k) (grind (arith, nat_tests))

byte_below : (k i n : ℕ) → i < k → rotated 32 n (2 * i) < 256 → rotated_byte k n ≡ true
byte_below zero i n h l = absurd (omega arith)
byte_below (suc k) i n h l =
    elim (cases_lt i k) [
      | inl m ↦ (let r = byte_below k i n m l in grind (arith, nat_tests))
      | inr m ↦ (let q : i ≡ k = omega arith in grind (arith, nat_tests))
    ]

pub some_byte : (i n : ℕ) → i < 16 → rotated 32 n (2 * i) < 256 → arm_immediate n ≡ true
unfolding arm_immediate
some_byte i n h l = byte_below 16 i n h l

pub no_byte : (i n : ℕ) → 16 ≤ i → i ≤ 16 → rotated_byte i n ≡ false → arm_immediate n ≡ false
unfolding arm_immediate
no_byte i n a b h = let e : 16 ≡ i = omega arith in ap (λ k. rotated_byte k n) e ∙ h

-- ---- what the test of a power of two says
below_is : (k n : ℕ) (z : ℤ) → log2_below k n ≡ Some z → (j : ℕ) × (z ≡ pos j) × (j < k) × (n ≡ 2 ^ j)
below_is zero n z e = cc
below_is (suc k) n z e = go (n == 2 ^ k) refl (below_is k n z) e
  where
    go : (t : Bool) → (n == 2 ^ k) ≡ t → (log2_below k n ≡ Some z → (j : ℕ) × (z ≡ pos j) × (j < k) × (n ≡ 2 ^ j)) → (if t then Some (pos k) else log2_below k n) ≡ Some z → (j : ℕ) × (z ≡ pos j) × (j < suc k) × (n ≡ 2 ^ j)
    go true t f e = (k, cc, omega arith, grind (arith, nat_tests))
    go false t f e = let (j, a, b, c) = f e in (j, a, omega arith, c)

log2_is : (c z : ℤ) → log2_of c ≡ Some z → (j : ℕ) × (z ≡ pos j) × (j < 63) × (c ≡ pos (2 ^ j))
unfolding log2_of
log2_is (pos n) z e = let (j, a, b, c) = below_is 63 n z e in (j, a, b, ap pos c)
log2_is (negsuc n) z e = cc

-- a number for which the test holds is a power of two, and its exponent is found
pub power_of : (c : ℤ) → (if is_true (Some (truth (is_some (log2_of c)))) then true else false) ≡ true →
    (j : ℕ) × (log2_of c ≡ Some (pos j)) × (j < 63) × (c ≡ pos (2 ^ j))
power_of c h = go (log2_of c) refl h
  where
    go : (o : Option ℤ) → log2_of c ≡ o → (if is_true (Some (truth (is_some o))) then true else false) ≡ true → (j : ℕ) × (log2_of c ≡ Some (pos j)) × (j < 63) × (c ≡ pos (2 ^ j))
    go None e h = cc
    go (Some z) e h = let (j, a, b, d) = log2_is c z e in (j, e ∙ ap Some a, b, d)
