-- Powers of two, and shifts at counts of the width and above.
use Rattle.std.proofs.Common.{◌≡◌, ℕ, ◌+◌, ◌-◌, ◌*◌, ◌/◌, ◌%◌, ◌^◌, ◌<◌, ◌≤◌, suc, ap, ◌∙◌, sym, arith, negsuc, to_z, of_z, ◌-ℤ◌, w64}
use Rattle.std.proofs.lemmas.Nat.{pow-add, pow_pos, one_shl, div_below, mul-mod_first, mod-mul-add, div-add-mod'}
use Rattle.std.proofs.lemmas.Int.{ints}
use Rattle.std.proofs.Math.Pow.{pow_mono, mod-mod-pow}
use Rattle.std.proofs.Math.Nat.{mul-mod_left, mul_assoc, mod-lt, mul-lt-mul_of_pos_right, mul-le-mul_right}
use Rattle.bk_num.specs.Word.{signed}

-- a power as the product of two
pub pow_split : (w c : ℕ) → w ≤ c → 2 ^ c ≡ 2 ^ (c - w) * 2 ^ w
pow_split w c h = ap (λ n. 2 ^ n) (let e : c ≡ c - w + w = omega arith in e) ∙ pow-add 2 (c - w) w

-- a shift left by the width or more leaves nothing
pub shl_gone : (w x c : ℕ) → w ≤ c → 0 ≡ x * 2 ^ c % 2 ^ w
shl_gone w x c h = rw (pow_split w c h) (rw (← mul_assoc x (2 ^ (c - w)) (2 ^ w)) (sym (mul-mod_left (x * 2 ^ (c - w)) (2 ^ w))))

-- a shift right by the width or more leaves nothing
pub shr_gone : (w x c : ℕ) → w ≤ c → 0 ≡ x % 2 ^ w / 2 ^ c
shr_gone w x c h =
    let a : x % 2 ^ w < 2 ^ w = mod-lt x (pow_pos w) in
    let b : 2 ^ w ≤ 2 ^ c = pow_mono h in
    let d : x % 2 ^ w / 2 ^ c < 1 = div_below (x % 2 ^ w) (2 ^ c) 1 (pow_pos c) (omega arith) in
    omega arith

-- a remainder at a larger width before one at a smaller width
pub mod_mod : (n w k : ℕ) → w ≤ k → n % 2 ^ k % 2 ^ w ≡ n % 2 ^ w
mod_mod n w k h = ap (λ d. n % 2 ^ d % 2 ^ w) (let e : k ≡ k - w + w = omega arith in e) ∙ mod-mod-pow n (k - w) w

-- the machine's shift of 64 bits, cut to w bits
pub shl_kept : (w x c : ℕ) → w ≤ 64 → x % 2 ^ w * 2 ^ c % 2 ^ 64 % 2 ^ w ≡ x * 2 ^ c % 2 ^ w
shl_kept w x c h = mod_mod (x % 2 ^ w * 2 ^ c) w 64 h ∙ mul-mod_first x (2 ^ c) (2 ^ w)

-- what `sext` computes for a number whose sign bit is set
pub signed_high : (w n r : ℕ) → 1 ≤ w → w ≤ 64 → r ≡ n % 2 ^ w → 1 * 2 ^ (w - 1) % 2 ^ 64 ≤ r → to_z w64 (of_z w64 (negsuc 0 -ℤ to_z w64 (1 * 2 ^ (w - 1) % 2 ^ 64 - 1 + 1 * 2 ^ (w - 1) % 2 ^ 64 - r))) ≡ signed w n
signed_high w n r h k e le =
    let s : 1 * 2 ^ (w - 1) % 2 ^ 64 ≡ 2 ^ (w - 1) = one_shl (w - 1) 64 (omega arith) in
    let p : 2 ^ w ≡ 2 ^ (w - 1) * 2 ^ 1 = pow_split 1 w h in
    let b : 2 ^ (w - 1) ≤ 2 ^ 63 = pow_mono {j = 63} (omega arith) in
    let lt : n % 2 ^ w < 2 ^ w = mod-lt n (pow_pos w) in
    grind (arith, ints)

-- the two parts of a rotated number, s * t being 2 ^ w
turn_fits : (x s t : ℕ) → 0 < s → 0 < t → x * t % (s * t) + x % (s * t) / s < s * t
turn_fits x s t p q =
    let r : x % s < s = mod-lt x p in
    let m : x % s * t < s * t = mul-lt-mul_of_pos_right r q in
    let e : x * t ≡ x / s * (s * t) + x % s * t = omega (arith, ap (λ n. n * t) (div-add-mod' x s)) in
    let a : x * t % (s * t) ≡ x % s * t = ap (λ n. n % (s * t)) e ∙ mod-mul-add (x / s) (s * t) (x % s * t) m in
    let n : 0 < s * t = omega arith in
    let l : x % (s * t) < s * t = mod-lt x n in
    let b : x % (s * t) / s < t = div_below (x % (s * t)) s t p (omega (arith, l)) in
    let c : suc (x % s) * t ≤ s * t = mul-le-mul_right t r in
    omega (arith, a, b, c)

-- a number turned in its w bits is one of w bits
pub turned_below : (w b x : ℕ) → b < w → x * 2 ^ b % 2 ^ w + x % 2 ^ w / 2 ^ (w - b) < 2 ^ w
turned_below w b x l =
    let e : 2 ^ w ≡ 2 ^ (w - b) * 2 ^ b = pow_split b w (omega arith) in
    rw e (turn_fits x (2 ^ (w - b)) (2 ^ b) (pow_pos (w - b)) (pow_pos b))
