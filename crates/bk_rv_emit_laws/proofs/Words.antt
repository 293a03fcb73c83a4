-- What the instructions of a unit come to, over words.
use Rattle.std.proofs.Common.{◌≡◌, ℕ, zero, suc, ◌+◌, ◌-◌, ◌*◌, ◌/◌, ◌%◌, ◌^◌, ◌<◌, ◌≤◌, ap, ◌∙◌, sym, refl, arith, Bool, true, false, cond, not, ◌==◌, IsTrue, ℤ, pos, negsuc, ◌-ℤ◌, min, nat_lt, int_div, int_rem, bit_and, bit_or, FitsSigned, w64, inl, inr}
use Rattle.std.specs.Int.{int_div_euclid}
use Rattle.std.specs.Int.Bits.{and_zero_r, or_zero_l, or_self}
use Rattle.std.proofs.lemmas.Bool.{cases_lt, ltb-true}
use Rattle.std.proofs.lemmas.Bool.Decides.{nat_tests}
use Rattle.std.proofs.lemmas.Nat.{and_mask, or_shifted, or_lt, le_or_l, pow_pos, mod-mul-add, div-add-mod', div_below}
use Rattle.std.proofs.Math.Nat.{mod-lt, mod-eq_of_lt, mul-lt-mul_of_pos_right}
use Rattle.bk_num.specs.Word.{signed, residue, rotated, fits_signed}
use Rattle.bk_num.proofs.Signs.{signed_fits}
use Rattle.bk_num.proofs.Powers.{pow_split, shl_gone, shr_gone}
use Rattle.bk_num.proofs.Residues.{shift_is}
use Rattle.bk_ops.specs.declared.types.Target.TheVariants.{Riscv64}
use Rattle.bk_ops.specs.Arithmetic.{as_bit, difference, shifted_left, shifted_signed, quotient, quotient_unsigned, remainder, remainder_unsigned}
use Rattle.bk_ops.proofs.LowBits.{residue-sub}
use Rattle.bk_rv_isa.specs.declared.inst.RegisterOp.TheVariants.{Sub, Div, Divu, Rem, Remu, Sll, Srl, Sra}
use Rattle.bk_rv_isa.specs.Machine.{register_result, flag, plus}
use Rattle.bk_rv_emit.specs.Numbers.{capped}
use lib.Signed.{shr_z}

pub kept : (x : ℕ) → x < 2 ^ 64 → x % 2 ^ 64 ≡ x
kept x h = mod-eq_of_lt h

pub plus_none : (x : ℕ) → x < 2 ^ 64 → plus x (pos 0) ≡ x
plus_none x h = ap (λ n. n % 2 ^ 64) (let e : x + 0 ≡ x = omega arith in e) ∙ kept x h

pub sub_is : (x y : ℕ) → x < 2 ^ 64 → y < 2 ^ 64 → register_result Sub x y ≡ difference 64 x y
sub_is x y h k = residue-sub 64 (pos x) (pos y) ∙ ap (λ n. difference 64 n (y % 2 ^ 64)) (kept x h) ∙ ap (λ n. difference 64 x n) (kept y k)

pub neg_is : (x : ℕ) → x < 2 ^ 64 → register_result Sub 0 x ≡ (2 ^ 64 - x) % 2 ^ 64
neg_is x h = sub_is 0 x (omega arith) h ∙ ap (λ n. n % 2 ^ 64) (let e : 0 + (2 ^ 64 - x) ≡ 2 ^ 64 - x = omega arith in e)

pub div_is : (x y : ℕ) → y < 2 ^ 64 → register_result Div x y ≡ quotient Riscv64 64 x y
div_is x y k = ap (λ n. cond (n == 0) (2 ^ 64 - 1) (residue 64 (int_div (signed 64 x) (signed 64 y)))) (kept y k)

pub divu_is : (x y : ℕ) → x < 2 ^ 64 → y < 2 ^ 64 → register_result Divu x y ≡ quotient_unsigned Riscv64 64 x y
divu_is x y h k = ap (λ n. cond (n == 0) (2 ^ 64 - 1) (x % 2 ^ 64 / n)) (kept y k) ∙ ap (λ n. cond (y == 0) (2 ^ 64 - 1) (n / y)) (kept x h)

pub rem_is : (x y : ℕ) → x < 2 ^ 64 → y < 2 ^ 64 → register_result Rem x y ≡ remainder 64 x y
rem_is x y h k =
    ap (λ n. cond (n == 0) (x % 2 ^ 64) (residue 64 (int_rem (signed 64 x) (signed 64 y)))) (kept y k)
    ∙ ap (λ n. cond (y == 0) n (residue 64 (int_rem (signed 64 x) (signed 64 y)))) (kept x h)

pub remu_is : (x y : ℕ) → x < 2 ^ 64 → y < 2 ^ 64 → register_result Remu x y ≡ remainder_unsigned x y
remu_is x y h k = ap (λ n. cond (n == 0) (x % 2 ^ 64) (x % 2 ^ 64 % n)) (kept y k) ∙ ap (λ n. cond (y == 0) n (n % y)) (kept x h)

pub seqz_is : (x : ℕ) → flag (nat_lt x 1) ≡ as_bit (x == 0)
seqz_is x = grind (arith, nat_tests)

pub snez_is : (x : ℕ) → flag (nat_lt 0 x) ≡ as_bit (not (x == 0))
snez_is x = grind (arith, nat_tests)

-- all ones where the flag is set
masked : (b : Bool) (n : ℕ) → bit_and n (residue 64 (pos 0 -ℤ pos (flag b))) ≡ cond b (n % 2 ^ 64) 0
masked true n = and_mask n 64
masked false n = and_zero_r n

small : (y : ℕ) → y < 64 → nat_lt y 64 ≡ true
small y h = grind (arith, nat_tests)

large : (y : ℕ) → 64 ≤ y → nat_lt y 64 ≡ false
large y h = grind (arith, nat_tests)

pub shl_is : (x y : ℕ) → bit_and (x * 2 ^ (y % 64) % 2 ^ 64) (residue 64 (pos 0 -ℤ pos (flag (nat_lt y 64)))) ≡ shifted_left 64 x y
shl_is x y = masked (nat_lt y 64) (x * 2 ^ (y % 64) % 2 ^ 64) ∙ elim (cases_lt y 64) [
  | inl h ↦ ap (λ b. cond b (x * 2 ^ (y % 64) % 2 ^ 64 % 2 ^ 64) 0) (small y h)
      ∙ kept (x * 2 ^ (y % 64) % 2 ^ 64) (mod-lt (x * 2 ^ (y % 64)) (pow_pos 64))
      ∙ ap (λ k. x * 2 ^ k % 2 ^ 64) (let e : y % 64 ≡ y = omega arith in e)
  | inr h ↦ ap (λ b. cond b (x * 2 ^ (y % 64) % 2 ^ 64 % 2 ^ 64) 0) (large y h) ∙ shl_gone 64 x y h
]

shr_low : (x k : ℕ) → x < 2 ^ 64 → x / 2 ^ k < 2 ^ 64
shr_low x k h = div_below x (2 ^ k) (2 ^ 64) (pow_pos k) (let p : 0 < 2 ^ k = pow_pos k in let q : 2 ^ 64 ≤ 2 ^ 64 * 2 ^ k = omega arith in omega arith)

pub shr_is : (x y : ℕ) → x < 2 ^ 64 → bit_and (x % 2 ^ 64 / 2 ^ (y % 64)) (residue 64 (pos 0 -ℤ pos (flag (nat_lt y 64)))) ≡ x / 2 ^ y
shr_is x y l = masked (nat_lt y 64) (x % 2 ^ 64 / 2 ^ (y % 64)) ∙ elim (cases_lt y 64) [
  | inl h ↦ ap (λ b. cond b (x % 2 ^ 64 / 2 ^ (y % 64) % 2 ^ 64) 0) (small y h)
      ∙ ap (λ n. n / 2 ^ (y % 64) % 2 ^ 64) (kept x l)
      ∙ kept (x / 2 ^ (y % 64)) (shr_low x (y % 64) l)
      ∙ ap (λ k. x / 2 ^ k) (let e : y % 64 ≡ y = omega arith in e)
  | inr h ↦ ap (λ b. cond b (x % 2 ^ 64 / 2 ^ (y % 64) % 2 ^ 64) 0) (large y h) ∙ shr_gone 64 x y h ∙ ap (λ n. n / 2 ^ y) (kept x l)
]

fits_of : (z : ℤ) → IsTrue (fits_signed 64 z) → FitsSigned w64 z
fits_of (pos n) h = record { sfits = ltb-true n (2 ^ 63) h }
fits_of (negsuc n) h = record { sfits = ltb-true n (2 ^ 63) h }

euclid : (v : ℤ) (m : ℕ) → shr_z v m ≡ int_div_euclid v (pos m)
euclid (pos a) m = refl
euclid (negsuc a) m = refl

-- the count of the last shift of a signed shift: the count itself below 64, else 63
sign_count : ℕ → ℕ
sign_count y = bit_or ((flag (nat_lt y 64) + residue 64 (negsuc 0)) % 2 ^ 64) y % 64

sign_count_small : (y : ℕ) → y < 64 → sign_count y ≡ y
unfolding sign_count
sign_count_small y h = ap (λ b. bit_or ((flag b + residue 64 (negsuc 0)) % 2 ^ 64) y % 64) (small y h) ∙ ap (λ n. n % 64) (or_zero_l y) ∙ (omega arith)

sign_count_large : (y : ℕ) → 64 ≤ y → y < 2 ^ 64 → sign_count y ≡ 63
unfolding sign_count
sign_count_large y h k =
    let l : 2 ^ 64 - 1 ≤ bit_or (2 ^ 64 - 1) y = le_or_l (2 ^ 64 - 1) y in
    let u : bit_or (2 ^ 64 - 1) y < 2 ^ 64 = or_lt 64 (2 ^ 64 - 1) y (omega arith) k in
    let e : bit_or (2 ^ 64 - 1) y ≡ 2 ^ 64 - 1 = omega arith in
    ap (λ b. bit_or ((flag b + residue 64 (negsuc 0)) % 2 ^ 64) y % 64) (large y h) ∙ ap (λ n. n % 64) e

pub sar_is : (x y : ℕ) → y < 2 ^ 64 → register_result Sra x (bit_or ((flag (nat_lt y 64) + residue 64 (negsuc 0)) % 2 ^ 64) y) ≡ shifted_signed 64 x y
unfolding sign_count
sar_is x y k = elim (cases_lt y 64) [
  | inl h ↦ ap (λ n. residue 64 (int_div_euclid (signed 64 x) (pos (2 ^ n)))) (sign_count_small y h)
  | inr h ↦ ap (λ n. residue 64 (int_div_euclid (signed 64 x) (pos (2 ^ n)))) (sign_count_large y h k)
      ∙ ap (λ z. residue 64 z) (sym (euclid (signed 64 x) (2 ^ 63)) ∙ shift_is (signed 64 x) 63 y (fits_of (signed 64 x) (signed_fits 64 x (omega arith))) (inr (refl, omega arith)))
]

-- the part of a product with a power that is left in the width, s * t being the width's power
turned_part : (x s t : ℕ) → 0 < s → 0 < t → x * t % (s * t) ≡ x % s * t
turned_part x s t p q =
    let r : x % s < s = mod-lt x p in
    let e : x * t ≡ x / s * (s * t) + x % s * t = omega (arith, ap (λ n. n * t) (div-add-mod' x s)) in
    let m : x % s * t < s * t = mul-lt-mul_of_pos_right r q in
    ap (λ n. n % (s * t)) e ∙ mod-mul-add (x / s) (s * t) (x % s * t) m

part : (x k : ℕ) → k ≤ 64 → x * 2 ^ k % 2 ^ 64 ≡ x % 2 ^ (64 - k) * 2 ^ k
part x k h = ap (λ n. x * 2 ^ k % n) (pow_split k 64 h) ∙ turned_part x (2 ^ (64 - k)) (2 ^ k) (pow_pos (64 - k)) (pow_pos k)

top : (x k : ℕ) → x < 2 ^ 64 → k ≤ 64 → x / 2 ^ (64 - k) < 2 ^ k
top x k l h = div_below x (2 ^ (64 - k)) (2 ^ k) (pow_pos (64 - k)) (let e : 2 ^ 64 ≡ 2 ^ (64 - k) * 2 ^ k = pow_split k 64 h in omega arith)

turn_some : (x k : ℕ) → x < 2 ^ 64 → k ≤ 64 → bit_or (x * 2 ^ k % 2 ^ 64) (x % 2 ^ 64 / 2 ^ (64 - k)) ≡ x * 2 ^ k % 2 ^ 64 + x % 2 ^ 64 / 2 ^ (64 - k)
turn_some x k l h =
    ap (λ n. bit_or (x * 2 ^ k % 2 ^ 64) (n / 2 ^ (64 - k))) (kept x l)
    ∙ ap (λ n. bit_or n (x / 2 ^ (64 - k))) (part x k h)
    ∙ or_shifted (x % 2 ^ (64 - k)) k (x / 2 ^ (64 - k)) (top x k l h)
    ∙ ap (λ n. n + x / 2 ^ (64 - k)) (sym (part x k h))
    ∙ ap (λ n. x * 2 ^ k % 2 ^ 64 + n / 2 ^ (64 - k)) (sym (kept x l))

turn_none : (x : ℕ) → x < 2 ^ 64 → bit_or (x * 2 ^ 0 % 2 ^ 64) (x % 2 ^ 64 / 2 ^ 0) ≡ x * 2 ^ 0 % 2 ^ 64 + x % 2 ^ 64 / 2 ^ (64 - 0)
turn_none x l =
    let a : x * 2 ^ 0 % 2 ^ 64 ≡ x = omega arith in
    let b : x % 2 ^ 64 / 2 ^ 0 ≡ x = omega arith in
    let c : x % 2 ^ 64 / 2 ^ 64 ≡ 0 = omega arith in
    ap (λ n. bit_or n (x % 2 ^ 64 / 2 ^ 0)) a ∙ ap (λ n. bit_or x n) b ∙ or_self x ∙ (omega arith)

-- the count of the shift to the right
back_count : (y : ℕ) → y < 2 ^ 64 → register_result Sub 0 y % 64 ≡ (64 - y % 64) % 64
back_count y h = ap (λ n. n % 64) (neg_is y h) ∙ (omega arith)

turn : (x k : ℕ) → x < 2 ^ 64 → k < 64 → bit_or (x * 2 ^ k % 2 ^ 64) (x % 2 ^ 64 / 2 ^ ((64 - k) % 64)) ≡ x * 2 ^ k % 2 ^ 64 + x % 2 ^ 64 / 2 ^ (64 - k)
turn x zero l h = turn_none x l
turn x (suc k) l h =
    ap (λ j. bit_or (x * 2 ^ suc k % 2 ^ 64) (x % 2 ^ 64 / 2 ^ j)) (let e : (64 - suc k) % 64 ≡ 64 - suc k = omega arith in e)
    ∙ turn_some x (suc k) l (omega arith)

pub rot_is : (x y : ℕ) → x < 2 ^ 64 → y < 2 ^ 64 → bit_or (register_result Sll x y) (register_result Srl x (register_result Sub 0 y)) ≡ rotated 64 x y
rot_is x y h k =
    ap (λ j. bit_or (x * 2 ^ (y % 64) % 2 ^ 64) (x % 2 ^ 64 / 2 ^ j)) (back_count y k)
    ∙ turn x (y % 64) h (mod-lt y (omega arith))

-- a count that an instruction holds
pub count_is : (c : ℤ) → nat_lt (capped 64 c) 64 ≡ true → capped 64 c ≡ residue 64 c
count_is (pos n) h = let l : min n 64 < 64 = grind (arith, nat_tests) in omega arith
count_is (negsuc n) h = cc

pub low_bit : (n : ℕ) → bit_and n 1 ≡ n % 2
low_bit n = and_mask n 1
