-- Laws of numbers of w bits, as the families of the list need them. Premises say what a constant's number is, and what an op gives.
use Rattle.std.proofs.Common.{◌≡◌, ℕ, suc, ◌+◌, ◌-◌, ◌*◌, ◌/◌, ◌%◌, ◌^◌, ◌<◌, ◌≤◌, refl, ap, sym, ◌∙◌, arith, inl, inr, bit_and, bit_or, bit_xor, Bool, true, false, if◌then◌else◌, nat_lt, ◌==◌, ℤ, pos, negsuc, neg_ℤ, int_div}
use Rattle.std.specs.Int.Bits.{and_zero_l, and_self, or_zero_l, or_self, xor_zero_l, xor_self, xor_add_and}
use Rattle.std.proofs.lemmas.Bool.{cases_lt}
use Rattle.std.proofs.lemmas.Bool.Decides.{nat_tests}
use Rattle.std.proofs.lemmas.Nat.{pow_pos, and_mask, and_comm, le_or_l, or_lt, mul-mod_first}
use Rattle.std.proofs.Math.Nat.{mod-eq_of_lt, mod-add-mod, add-mod-mod, mod-mod, add_comm, mul_comm, zero-mod, mod_self}
use Rattle.std.proofs.Math.Pow.{pow_mono}
use Rattle.bk_num.specs.Word.{signed, residue}
use Rattle.bk_num.proofs.Signs.{residue_signed}
use Rattle.bk_ops.proofs.Cut.{same_mod}

-- ---- constants
pub zero_is : (w x : ℕ) → 0 % 2 ^ w ≡ x → x ≡ 0
zero_is w x h = sym h ∙ zero-mod (2 ^ w)

pub one_is : (w x : ℕ) → 1 ≤ w → 1 % 2 ^ w ≡ x → x ≡ 1
one_is w x l h = let p : 2 ^ 1 ≤ 2 ^ w = pow_mono l in sym h ∙ mod-eq_of_lt (omega arith)

pub ones_is : (w x : ℕ) → 2 ^ w - 1 - 0 % 2 ^ w ≡ x → x ≡ 2 ^ w - 1
ones_is w x h = let e : 0 % 2 ^ w ≡ 0 = zero-mod (2 ^ w) in omega arith

-- ---- a constant and a number
pub add_zero : (w x y v : ℕ) → x ≡ 0 → y < 2 ^ w → (x + y) % 2 ^ w ≡ v → y ≡ v
add_zero w x y v z l e = let q : y ≡ x + y = omega arith in sym (mod-eq_of_lt l) ∙ (ap (λ n. n % 2 ^ w) q ∙ e)

pub mul_one : (w x y v : ℕ) → x ≡ 1 → y < 2 ^ w → x * y % 2 ^ w ≡ v → y ≡ v
mul_one w x y v z l e =
    let o : y ≡ 1 * y = omega arith in
    sym (mod-eq_of_lt l) ∙ (ap (λ n. n % 2 ^ w) (o ∙ ap (λ n. n * y) (sym z)) ∙ e)

pub and_ones : (w x y v : ℕ) → x ≡ 2 ^ w - 1 → y < 2 ^ w → bit_and x y ≡ v → y ≡ v
and_ones w x y v z l e =
    sym (mod-eq_of_lt l) ∙ (sym (and_mask y w) ∙ (and_comm y (2 ^ w - 1) ∙ (ap (λ n. bit_and n y) (sym z) ∙ e)))

pub or_zero : (x y v : ℕ) → x ≡ 0 → bit_or x y ≡ v → y ≡ v
or_zero x y v z e = sym (or_zero_l y) ∙ (ap (λ n. bit_or n y) (sym z) ∙ e)

pub xor_zero : (x y v : ℕ) → x ≡ 0 → bit_xor x y ≡ v → y ≡ v
xor_zero x y v z e = sym (xor_zero_l y) ∙ (ap (λ n. bit_xor n y) (sym z) ∙ e)

pub mul_zero : (w x y v : ℕ) → x ≡ 0 → x * y % 2 ^ w ≡ v → 0 % 2 ^ w ≡ v
mul_zero w x y v z e = let o : 0 ≡ 0 * y = omega arith in ap (λ n. n % 2 ^ w) (o ∙ ap (λ n. n * y) (sym z)) ∙ e

pub and_zero : (x y v : ℕ) → x ≡ 0 → bit_and x y ≡ v → v ≡ 0
and_zero x y v z e = sym e ∙ (ap (λ n. bit_and n y) z ∙ and_zero_l y)

pub or_ones : (w x y v : ℕ) → x ≡ 2 ^ w - 1 → y < 2 ^ w → bit_or x y ≡ v → x ≡ v
or_ones w x y v z l e =
    let p = pow_pos w in
    omega (arith, le_or_l x y, or_lt w x y (omega arith) l)

pub mul_ones : (w x y v : ℕ) → x ≡ 2 ^ w - 1 → y < 2 ^ w → x * y % 2 ^ w ≡ v → (2 ^ w - y % 2 ^ w) % 2 ^ w ≡ v
mul_ones w x y v z l e =
    let p = pow_pos w in
    let q : x + 1 ≡ 2 ^ w = omega arith in
    let r : x * y + y ≡ 2 ^ w * y = omega (arith, ap (λ n. n * y) q) in
    ap (λ n. (2 ^ w - n) % 2 ^ w) (mod-eq_of_lt l) ∙ (same_mod (2 ^ w - y) (x * y) y 1 (2 ^ w) (omega (arith, r)) ∙ e)

pub xor_ones : (w x y v : ℕ) → x ≡ 2 ^ w - 1 → y < 2 ^ w → bit_xor x y ≡ v → 2 ^ w - 1 - y % 2 ^ w ≡ v
xor_ones w x y v z l e =
    let a : bit_and x y ≡ y = ap (λ n. bit_and n y) z ∙ (and_comm (2 ^ w - 1) y ∙ (and_mask y w ∙ mod-eq_of_lt l)) in
    let b : bit_xor x y + bit_and x y * 2 ≡ x + y = xor_add_and x y in
    let m : y % 2 ^ w ≡ y = mod-eq_of_lt l in
    omega arith

-- ---- a number and itself
pub sub_self : (w x y v : ℕ) → x ≡ y → y < 2 ^ w → (x + (2 ^ w - y)) % 2 ^ w ≡ v → v ≡ 0
sub_self w x y v q l e = let s : x + (2 ^ w - y) ≡ 2 ^ w = omega arith in sym e ∙ (ap (λ n. n % 2 ^ w) s ∙ mod_self (2 ^ w))

pub xor_same : (x y v : ℕ) → x ≡ y → bit_xor x y ≡ v → v ≡ 0
xor_same x y v q e = sym e ∙ (ap (λ n. bit_xor n y) q ∙ xor_self y)

pub and_same : (x y v : ℕ) → x ≡ y → bit_and x y ≡ v → y ≡ v
and_same x y v q e = sym (and_self y) ∙ (ap (λ n. bit_and n y) (sym q) ∙ e)

pub or_same : (x y v : ℕ) → x ≡ y → bit_or x y ≡ v → y ≡ v
or_same x y v q e = sym (or_self y) ∙ (ap (λ n. bit_or n y) (sym q) ∙ e)

-- ---- an op done twice
pub neg_twice : (w x y v : ℕ) → x < 2 ^ w → (2 ^ w - x) % 2 ^ w ≡ y → (2 ^ w - y) % 2 ^ w ≡ v → x ≡ v
neg_twice w x y v l a b =
    elim (cases_lt 0 x) [
      | inl p ↦
          (let r : 2 ^ w - x ≡ y = sym (mod-eq_of_lt (omega arith)) ∙ a in
          let q : 2 ^ w - y ≡ x = omega arith in
          sym (mod-eq_of_lt l) ∙ (ap (λ n. n % 2 ^ w) (sym q) ∙ b))
      | inr p ↦
          (let z : x ≡ 0 = omega arith in
          let r : 2 ^ w ≡ 2 ^ w - x = omega arith in
          let q : y ≡ 0 = sym a ∙ (ap (λ n. n % 2 ^ w) (sym r) ∙ mod_self (2 ^ w)) in
          let s : 2 ^ w ≡ 2 ^ w - y = omega arith in
          z ∙ (sym (mod_self (2 ^ w)) ∙ (ap (λ n. n % 2 ^ w) s ∙ b)))
    ]

pub complement_twice : (w x y v : ℕ) → x < 2 ^ w → 2 ^ w - 1 - x ≡ y → 2 ^ w - 1 - y ≡ v → x ≡ v
complement_twice w x y v l a b = omega arith

-- ---- sums and differences
pub sub_const_law : (w x y n v : ℕ) → n ≡ (2 ^ w - y) % 2 ^ w → (x + (2 ^ w - y)) % 2 ^ w ≡ v → (n % 2 ^ w + x % 2 ^ w) % 2 ^ w ≡ v
sub_const_law w x y n v q e = simp (mod-add-mod, add-mod-mod) (rw (q, mod-add-mod, add_comm) e)

pub add_twice_law : (w a b z y n v : ℕ) → n ≡ (a + b) % 2 ^ w → (b + z) % 2 ^ w ≡ y → (a + y) % 2 ^ w ≡ v → (n % 2 ^ w + z % 2 ^ w) % 2 ^ w ≡ v
add_twice_law w a b z y n v q d e =
    let s : a + b + z ≡ a + (b + z) = omega arith in
    simp (mod-add-mod, add-mod-mod) (rw (q, mod-add-mod, s) (sym (add-mod-mod a (b + z) (2 ^ w)) ∙ (ap (λ n. (a + n) % 2 ^ w) d ∙ e)))

pub add_neg_law : (w x z y v : ℕ) → x < 2 ^ w → z < 2 ^ w → (2 ^ w - z) % 2 ^ w ≡ y → (x + y) % 2 ^ w ≡ v → (x % 2 ^ w + (2 ^ w - z % 2 ^ w)) % 2 ^ w ≡ v
add_neg_law w x z y v l h d e =
    rw (mod-eq_of_lt l, mod-eq_of_lt h) (sym (add-mod-mod x (2 ^ w - z) (2 ^ w)) ∙ (ap (λ n. (x + n) % 2 ^ w) d ∙ e))

-- ---- powers of two
small : (j : ℕ) → j < 63 → j % 4294967296 % 4294967296 ≡ j
small j h = omega arith

pub mul_power_law : (w j y v : ℕ) → j < 63 → y < 2 ^ w → 2 ^ j % 2 ^ w * y % 2 ^ w ≡ v → y % 2 ^ w * 2 ^ (j % 4294967296 % 4294967296) % 2 ^ w ≡ v
mul_power_law w j y v h l e =
    rw (mod-eq_of_lt l, small j h) (ap (λ n. n % 2 ^ w) (mul_comm y (2 ^ j)) ∙ (sym (mul-mod_first (2 ^ j) y (2 ^ w)) ∙ e))

-- a choice on a number that is not 0
pub not_zero : (m a b v : ℕ) → 0 < m → (if m == 0 then a else b) ≡ v → b ≡ v
not_zero m a b v p e = grind (arith, nat_tests)

pub div_power_law : (w j x v : ℕ) → j < 63 → x < 2 ^ w → x / 2 ^ j ≡ v → x % 2 ^ w / 2 ^ (j % 4294967296 % 4294967296) ≡ v
div_power_law w j x v h l e = rw (mod-eq_of_lt l, small j h) e

pub mod_power_law : (w j x v : ℕ) → 1 ≤ w → x < 2 ^ w → 2 ^ j < 2 ^ w → x % 2 ^ j ≡ v →
    bit_and (x % 2 ^ w) ((2 ^ j + (2 ^ w - 1 % 2 ^ w)) % 2 ^ w % 2 ^ w) ≡ v
mod_power_law w j x v h l m e =
    let p = pow_pos j in
    let o : 1 % 2 ^ w ≡ 1 = one_is w (1 % 2 ^ w) h refl in
    let s : (2 ^ j + (2 ^ w - 1)) % 2 ^ w ≡ 2 ^ j - 1 = same_mod (2 ^ j + (2 ^ w - 1)) (2 ^ j - 1) 0 1 (2 ^ w) (omega arith) ∙ mod-eq_of_lt (omega arith) in
    rw (mod-mod, mod-eq_of_lt l, o, s) (and_mask x j ∙ e)

-- ---- signed numbers
-- a number that spells a number without a sign
pub spells : (w m n : ℕ) → signed w m ≡ pos n → m % 2 ^ w ≡ n
spells w m n e = go (nat_lt (m % 2 ^ w) (2 ^ (w - 1))) e
  where
    go : (t : Bool) → (if t then pos (m % 2 ^ w) else negsuc (2 ^ w - suc (m % 2 ^ w))) ≡ pos n → m % 2 ^ w ≡ n
    go true e = cc
    go false e = cc

over_one : (z : ℤ) → int_div z (pos 1) ≡ z
over_one (pos n) = ap pos (omega arith)
over_one (negsuc n) = ap (λ k. neg_ℤ (pos k)) (let q : suc n / 1 ≡ suc n = omega arith in q)

pub div_one_law : (w x y a v : ℕ) → 1 ≤ w → x < 2 ^ w → y < 2 ^ w → signed w y ≡ pos 1 →
    (if y == 0 then a else residue w (int_div (signed w x) (signed w y))) ≡ v → x ≡ v
div_one_law w x y a v h l m s e =
    let o : y ≡ 1 = sym (mod-eq_of_lt m) ∙ spells w y 1 s in
    sym (mod-eq_of_lt l) ∙ (sym (residue_signed w x h) ∙ (ap (residue w) (sym (over_one (signed w x)) ∙ ap (λ z. int_div (signed w x) z) (sym s)) ∙
    not_zero y a (residue w (int_div (signed w x) (signed w y))) v (omega arith) e))
