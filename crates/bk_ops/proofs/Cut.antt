-- Remainders by powers of two, around the machine's arithmetic of 64 bits.
use Rattle.std.proofs.Common.{◌≡◌, ℕ, ◌+◌, ◌-◌, ◌*◌, ◌/◌, ◌%◌, ◌^◌, ◌<◌, ◌≤◌, refl, ap, sym, ◌∙◌, arith, ℤ, Bool, true, false}
use mir.Val.{bool_byte}
use Rattle.std.proofs.Math.Nat.{add-mul-mod_self_right, div-add-mod', mod-mod, mod-add-mod, add-mod-mod, mod-eq_of_lt, mod-lt}
use Rattle.std.proofs.lemmas.Nat.{pow_pos, mul-mod}
use Rattle.bk_num.specs.Word.{residue}
use Rattle.bk_ops.specs.Arithmetic.{as_bit}
use Rattle.bk_num.proofs.Powers.{mod_mod, pow_split}
use Rattle.bk_num.proofs.Signs.{residue_below}

-- numbers that differ by multiples of m have one remainder: the premise is a case for `omega`
pub same_mod : (a b k l m : ℕ) → a + k * m ≡ b + l * m → a % m ≡ b % m
same_mod a b k l m e = sym (add-mul-mod_self_right a k m) ∙ (ap (λ n. n % m) e ∙ add-mul-mod_self_right b l m)

-- a number of w bits is its own remainder
pub cut_again : (w n : ℕ) → n % 2 ^ w % 2 ^ w ≡ n % 2 ^ w
cut_again w n = mod-mod n (2 ^ w)

pub add_64 : (x y w : ℕ) → w ≤ 64 → (x + y) % 18446744073709551616 % 2 ^ w ≡ (x % 2 ^ w + y % 2 ^ w) % 2 ^ w
add_64 x y w h = mod_mod (x + y) w 64 h ∙ simp (mod-add-mod, add-mod-mod)

pub mul_64 : (x y w : ℕ) → w ≤ 64 → x * y % 18446744073709551616 % 2 ^ w ≡ x % 2 ^ w * (y % 2 ^ w) % 2 ^ w
mul_64 x y w h = mod_mod (x * y) w 64 h ∙ mul-mod x y (2 ^ w)

pub sub_64 : (x y w : ℕ) → w ≤ 64 → y < 18446744073709551616 → (x + (18446744073709551616 - y)) % 18446744073709551616 % 2 ^ w ≡ (x % 2 ^ w + (2 ^ w - y % 2 ^ w)) % 2 ^ w
sub_64 x y w h l =
    let m : y % 2 ^ w < 2 ^ w = mod-lt y (pow_pos w) in
    mod_mod (x + (18446744073709551616 - y)) w 64 h
    ∙ same_mod (x + (18446744073709551616 - y)) (x % 2 ^ w + (2 ^ w - y % 2 ^ w)) (y / 2 ^ w + 1) (2 ^ (64 - w) + x / 2 ^ w) (2 ^ w)
    (let p : 18446744073709551616 ≡ 2 ^ (64 - w) * 2 ^ w = pow_split w 64 h in omega (arith, p, div-add-mod' x (2 ^ w), div-add-mod' y (2 ^ w)))

pub neg_64 : (x w : ℕ) → w ≤ 64 → x < 18446744073709551616 → (18446744073709551616 - x) % 18446744073709551616 % 2 ^ w ≡ (2 ^ w - x % 2 ^ w) % 2 ^ w
neg_64 x w h l =
    let m : x % 2 ^ w < 2 ^ w = mod-lt x (pow_pos w) in
    mod_mod (18446744073709551616 - x) w 64 h
    ∙ same_mod (18446744073709551616 - x) (2 ^ w - x % 2 ^ w) (x / 2 ^ w + 1) (2 ^ (64 - w)) (2 ^ w)
    (let p : 18446744073709551616 ≡ 2 ^ (64 - w) * 2 ^ w = pow_split w 64 h in omega (arith, p, div-add-mod' x (2 ^ w)))

pub ones_64 : (w : ℕ) → w ≤ 64 → 18446744073709551615 % 2 ^ w ≡ 2 ^ w - 1
ones_64 w h =
    let p : 18446744073709551616 ≡ 2 ^ (64 - w) * 2 ^ w = pow_split w 64 h in
    let z : 0 < 2 ^ w = pow_pos w in
    same_mod 18446744073709551615 (2 ^ w - 1) 1 (2 ^ (64 - w)) (2 ^ w) (omega arith) ∙ mod-eq_of_lt (omega arith)

pub ones_again : (w : ℕ) → (2 ^ w - 1) % 2 ^ w ≡ 2 ^ w - 1
ones_again w = let z : 0 < 2 ^ w = pow_pos w in mod-eq_of_lt (omega arith)

-- the low bits of a signed number are their own remainder
pub residue_again : (w : ℕ) (z : ℤ) → residue w z % 2 ^ w ≡ residue w z
residue_again w z = mod-eq_of_lt (residue_below w z)

-- a sum of two numbers, and a third one, at once
pub carried : (w x y c : ℕ) → ((x + y) % 2 ^ w % 2 ^ w + c % 2 ^ w) % 2 ^ w ≡ (x + y + c) % 2 ^ w
carried w x y c = simp (mod-mod, mod-add-mod, add-mod-mod)

-- a difference of two numbers, less a third one, at once
pub borrowed : (w x y b : ℕ) → 1 ≤ w → y < 2 ^ w → b ≤ 1 → ((x + (2 ^ w - y)) % 2 ^ w % 2 ^ w + (2 ^ w - b % 2 ^ w)) % 2 ^ w ≡ (x + (2 ^ w - (y + b))) % 2 ^ w
borrowed w x y b h l e =
    let p : 2 ^ w ≡ 2 ^ (w - 1) * 2 ^ 1 = pow_split 1 w h in
    let q : 0 < 2 ^ (w - 1) = pow_pos (w - 1) in
    let r : b % 2 ^ w ≡ b = mod-eq_of_lt (omega arith) in
    rw (r, mod-mod, mod-add-mod) (same_mod (x + (2 ^ w - y) + (2 ^ w - b)) (x + (2 ^ w - (y + b))) 0 1 (2 ^ w) (omega arith))

pub bit_le : (t : Bool) → as_bit t ≤ 1
bit_le true = omega arith
bit_le false = omega arith

pub byte_is_bit : (t : Bool) → bool_byte t ≡ as_bit t
byte_is_bit true = refl
byte_is_bit false = refl

pub ruleset cuts = (cut_again, add_64, mul_64, sub_64, neg_64, ones_64, ones_again)
