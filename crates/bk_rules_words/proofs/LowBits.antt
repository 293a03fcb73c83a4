-- Laws of low bits: what words of k bits compute, as numbers of w bits see it. A premise says of a number what a machine op gave.
use Rattle.std.proofs.Common.{◌≡◌, ℕ, ◌+◌, ◌-◌, ◌*◌, ◌/◌, ◌%◌, ◌^◌, ◌<◌, ◌≤◌, refl, ap, sym, ◌∙◌, arith, ℤ, bit_and, bit_or, bit_xor}
use Rattle.std.specs.Int.Bits.{xor_add_and}
use Rattle.std.proofs.lemmas.Nat.{pow_pos, mod_below, mul-mod, mul-mod_first, and_mod, or_mod, xor_mod, and_mask}
use Rattle.std.proofs.Math.Nat.{div-add-mod', mod-mod, mod-add-mod, add-mod-mod, mod-eq_of_lt}
use Rattle.bk_num.specs.Word.{residue}
use Rattle.bk_num.proofs.Powers.{mod_mod, pow_split}
use Rattle.bk_ops.proofs.Cut.{same_mod, residue_again}
use Rattle.bk_ops.proofs.LowBits.{residue-low}

-- numbers that agree in k bits agree in fewer
pub low : (w k n m : ℕ) → w ≤ k → n % 2 ^ k ≡ m % 2 ^ k → n % 2 ^ w ≡ m % 2 ^ w
low w k n m h e = sym (mod_mod n w k h) ∙ (ap (λ i. i % 2 ^ w) e ∙ mod_mod m w k h)

pub low_constant : (w k : ℕ) (c : ℤ) (n : ℕ) → w ≤ k → n % 2 ^ k ≡ residue k c % 2 ^ k → n % 2 ^ w ≡ residue w c % 2 ^ w
low_constant w k c n h e = low w k n (residue k c) h e ∙ (residue-low w k c h ∙ sym (residue_again w c))

-- a constant in a register
pub held_constant : (k : ℕ) (c : ℤ) (y : ℕ) → y % 2 ^ k ≡ residue k c % 2 ^ k → residue k c ≡ y % 2 ^ k
held_constant k c y f = sym (f ∙ residue_again k c)

-- ---- sums, differences and products
pub low_add : (w k x y n : ℕ) → w ≤ k → n % 2 ^ k ≡ (x % 2 ^ k + y % 2 ^ k) % 2 ^ k % 2 ^ k → n % 2 ^ w ≡ (x % 2 ^ w + y % 2 ^ w) % 2 ^ w % 2 ^ w
low_add w k x y n h e =
    low w k n _ h e ∙
    (mod_mod (x % 2 ^ k + y % 2 ^ k) w k h ∙
    (sym (mod-add-mod (x % 2 ^ k) (2 ^ w) (y % 2 ^ k)) ∙
    (sym (add-mod-mod (x % 2 ^ k % 2 ^ w) (y % 2 ^ k) (2 ^ w)) ∙ rw (mod_mod x w k h, mod_mod y w k h) (sym (mod-mod (x % 2 ^ w + y % 2 ^ w) (2 ^ w))))))

-- a constant that was added
pub added_constant : (k p y n : ℕ) (c : ℤ) → y % 2 ^ k ≡ residue k c % 2 ^ k → n % 2 ^ k ≡ (p % 2 ^ k + y % 2 ^ k) % 2 ^ k % 2 ^ k →
    n % 2 ^ k ≡ (p % 2 ^ k + residue k c) % 2 ^ k % 2 ^ k
added_constant k p y n c f e = e ∙ ap (λ i. (p % 2 ^ k + i) % 2 ^ k % 2 ^ k) (sym (held_constant k c y f))

-- x - y, where y is a word
less_low : (w k x y : ℕ) → w ≤ k → y < 2 ^ k → (x + (2 ^ k - y)) % 2 ^ w ≡ (x % 2 ^ w + (2 ^ w - y % 2 ^ w)) % 2 ^ w
less_low w k x y h l =
    let m : y % 2 ^ w < 2 ^ w = mod_below y (2 ^ w) (pow_pos w) in
    let p : 2 ^ k ≡ 2 ^ (k - w) * 2 ^ w = pow_split w k h in
    same_mod (x + (2 ^ k - y)) (x % 2 ^ w + (2 ^ w - y % 2 ^ w)) (y / 2 ^ w + 1) (2 ^ (k - w) + x / 2 ^ w) (2 ^ w)
    (omega (arith, p, div-add-mod' x (2 ^ w), div-add-mod' y (2 ^ w)))

pub low_sub : (w k x y n : ℕ) → w ≤ k → n % 2 ^ k ≡ (x % 2 ^ k + (2 ^ k - y % 2 ^ k)) % 2 ^ k % 2 ^ k →
    n % 2 ^ w ≡ (x % 2 ^ w + (2 ^ w - y % 2 ^ w)) % 2 ^ w % 2 ^ w
low_sub w k x y n h e =
    low w k n _ h e ∙
    (mod_mod (x % 2 ^ k + (2 ^ k - y % 2 ^ k)) w k h ∙
    (less_low w k (x % 2 ^ k) (y % 2 ^ k) h (mod_below y (2 ^ k) (pow_pos k)) ∙
    rw (mod_mod x w k h, mod_mod y w k h) (sym (mod-mod (x % 2 ^ w + (2 ^ w - y % 2 ^ w)) (2 ^ w)))))

pub low_mul : (w k x y n : ℕ) → w ≤ k → n % 2 ^ k ≡ x % 2 ^ k * (y % 2 ^ k) % 2 ^ k % 2 ^ k → n % 2 ^ w ≡ x % 2 ^ w * (y % 2 ^ w) % 2 ^ w % 2 ^ w
low_mul w k x y n h e =
    low w k n _ h e ∙
    (mod_mod (x % 2 ^ k * (y % 2 ^ k)) w k h ∙
    (mul-mod (x % 2 ^ k) (y % 2 ^ k) (2 ^ w) ∙ rw (mod_mod x w k h, mod_mod y w k h) (sym (mod-mod (x % 2 ^ w * (y % 2 ^ w)) (2 ^ w)))))

pub low_neg : (w k x n : ℕ) → w ≤ k → n % 2 ^ k ≡ (2 ^ k - x % 2 ^ k) % 2 ^ k % 2 ^ k → n % 2 ^ w ≡ (2 ^ w - x % 2 ^ w) % 2 ^ w % 2 ^ w
low_neg w k x n h e =
    let l : x % 2 ^ k < 2 ^ k = mod_below x (2 ^ k) (pow_pos k) in
    let m : x % 2 ^ k % 2 ^ w < 2 ^ w = mod_below (x % 2 ^ k) (2 ^ w) (pow_pos w) in
    let p : 2 ^ k ≡ 2 ^ (k - w) * 2 ^ w = pow_split w k h in
    low w k n _ h e ∙
    (mod_mod (2 ^ k - x % 2 ^ k) w k h ∙
    (same_mod (2 ^ k - x % 2 ^ k) (2 ^ w - x % 2 ^ k % 2 ^ w) (x % 2 ^ k / 2 ^ w + 1) (2 ^ (k - w)) (2 ^ w) (omega (arith, p, l, m, div-add-mod' (x % 2 ^ k) (2 ^ w))) ∙
    rw (mod_mod x w k h) (sym (mod-mod (2 ^ w - x % 2 ^ w) (2 ^ w)))))

-- ---- bits: those of two numbers combined have no bit above theirs
pub low_and : (w k x y n : ℕ) → w ≤ k → n % 2 ^ k ≡ bit_and (x % 2 ^ k) (y % 2 ^ k) % 2 ^ k → n % 2 ^ w ≡ bit_and (x % 2 ^ w) (y % 2 ^ w) % 2 ^ w
low_and w k x y n h e =
    low w k n _ h e ∙
    (and_mod (x % 2 ^ k) (y % 2 ^ k) w ∙
    rw (mod_mod x w k h, mod_mod y w k h) (sym (and_mod (x % 2 ^ w) (y % 2 ^ w) w ∙ rw (mod-mod x (2 ^ w), mod-mod y (2 ^ w)) refl)))

pub low_or : (w k x y n : ℕ) → w ≤ k → n % 2 ^ k ≡ bit_or (x % 2 ^ k) (y % 2 ^ k) % 2 ^ k → n % 2 ^ w ≡ bit_or (x % 2 ^ w) (y % 2 ^ w) % 2 ^ w
low_or w k x y n h e =
    low w k n _ h e ∙
    (or_mod (x % 2 ^ k) (y % 2 ^ k) w ∙
    rw (mod_mod x w k h, mod_mod y w k h) (sym (or_mod (x % 2 ^ w) (y % 2 ^ w) w ∙ rw (mod-mod x (2 ^ w), mod-mod y (2 ^ w)) refl)))

pub low_xor : (w k x y n : ℕ) → w ≤ k → n % 2 ^ k ≡ bit_xor (x % 2 ^ k) (y % 2 ^ k) % 2 ^ k → n % 2 ^ w ≡ bit_xor (x % 2 ^ w) (y % 2 ^ w) % 2 ^ w
low_xor w k x y n h e =
    low w k n _ h e ∙
    (xor_mod (x % 2 ^ k) (y % 2 ^ k) w ∙
    rw (mod_mod x w k h, mod_mod y w k h) (sym (xor_mod (x % 2 ^ w) (y % 2 ^ w) w ∙ rw (mod-mod x (2 ^ w), mod-mod y (2 ^ w)) refl)))

-- all bits turned
pub low_complement : (w k x n : ℕ) → w ≤ k → n % 2 ^ k ≡ (2 ^ k - 1 - x % 2 ^ k) % 2 ^ k → n % 2 ^ w ≡ (2 ^ w - 1 - x % 2 ^ w) % 2 ^ w
low_complement w k x n h e =
    let l : x % 2 ^ k < 2 ^ k = mod_below x (2 ^ k) (pow_pos k) in
    let m : x % 2 ^ k % 2 ^ w < 2 ^ w = mod_below (x % 2 ^ k) (2 ^ w) (pow_pos w) in
    let p : 2 ^ k ≡ 2 ^ (k - w) * 2 ^ w = pow_split w k h in
    low w k n _ h e ∙
    (same_mod (2 ^ k - 1 - x % 2 ^ k) (2 ^ w - 1 - x % 2 ^ k % 2 ^ w) (x % 2 ^ k / 2 ^ w + 1) (2 ^ (k - w)) (2 ^ w)
    (omega (arith, p, l, m, div-add-mod' (x % 2 ^ k) (2 ^ w))) ∙
    ap (λ i. (2 ^ w - 1 - i) % 2 ^ w) (mod_mod x w k h))

pub xor_ones : (w x : ℕ) → x < 2 ^ w → bit_xor x (2 ^ w - 1) ≡ 2 ^ w - 1 - x
xor_ones w x l =
    let a : bit_and x (2 ^ w - 1) ≡ x = and_mask x w ∙ mod-eq_of_lt l in
    let b : bit_xor x (2 ^ w - 1) + bit_and x (2 ^ w - 1) * 2 ≡ x + (2 ^ w - 1) = xor_add_and x (2 ^ w - 1) in
    omega arith

-- ---- shifts left, and numbers cut twice
pub low_left : (w k x c n : ℕ) → w ≤ k → n % 2 ^ k ≡ x % 2 ^ k * 2 ^ c % 2 ^ k % 2 ^ k → n % 2 ^ w ≡ x % 2 ^ w * 2 ^ c % 2 ^ w % 2 ^ w
low_left w k x c n h e =
    low w k n _ h e ∙
    (mod_mod (x % 2 ^ k * 2 ^ c) w k h ∙
    (sym (mul-mod_first (x % 2 ^ k) (2 ^ c) (2 ^ w)) ∙
    (ap (λ i. i * 2 ^ c % 2 ^ w) (mod_mod x w k h) ∙ sym (mod-mod (x % 2 ^ w * 2 ^ c) (2 ^ w)))))

pub cut_twice : (w v x : ℕ) → v ≤ w → x % 2 ^ v ≡ x % 2 ^ w % 2 ^ v % 2 ^ v
cut_twice w v x h = sym (mod_mod x v w h) ∙ sym (mod-mod (x % 2 ^ w) (2 ^ v))
