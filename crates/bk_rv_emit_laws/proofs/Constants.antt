-- Numbers in an upper and a lower immediate.
use Rattle.std.proofs.Common.{◌≡◌, ℕ, suc, ◌+◌, ◌-◌, ◌*◌, ◌/◌, ◌%◌, ◌^◌, ◌<◌, ◌≤◌, ap, ◌∙◌, sym, arith, true, false, cond, IsTrue, ℤ, pos, negsuc, ◌*ℤ◌, nat_lt, inl, inr}
use Rattle.std.proofs.lemmas.Bool.{cases_lt}
use Rattle.std.proofs.lemmas.Bool.Decides.{nat_tests}
use Rattle.std.proofs.lemmas.Int.{ints}
use Rattle.std.proofs.Math.Nat.{mod-eq_of_lt}
use Rattle.bk_num.specs.Word.{signed, residue, fits_signed}
use Rattle.bk_num.proofs.Signs.{signed_residue, residue_below}
use Rattle.bk_num.proofs.Powers.{mod_mod}
use Rattle.bk_ops.proofs.LowBits.{signed_again}
use Rattle.bk_rv_isa.specs.Machine.{plus, extended}
use Rattle.bk_rv_emit.specs.Numbers.{upper, lower}

-- a signed number of w bits, in 64 bits and shifted
signed_low : (w n : ℕ) → n % 2 ^ w < 2 ^ (w - 1) → signed w n ≡ pos (n % 2 ^ w)
signed_low w n h = let t : nat_lt (n % 2 ^ w) (2 ^ (w - 1)) ≡ true = grind (arith, nat_tests) in ap (λ b. cond b (pos (n % 2 ^ w)) (negsuc (2 ^ w - suc (n % 2 ^ w)))) t

signed_high : (w n : ℕ) → 2 ^ (w - 1) ≤ n % 2 ^ w → signed w n ≡ negsuc (2 ^ w - suc (n % 2 ^ w))
signed_high w n h = let t : nat_lt (n % 2 ^ w) (2 ^ (w - 1)) ≡ false = grind (arith, nat_tests) in ap (λ b. cond b (pos (n % 2 ^ w)) (negsuc (2 ^ w - suc (n % 2 ^ w)))) t

-- what LUI puts in the register, and the lower immediate, as words
upper_word : ℕ → ℕ
upper_word u = residue 64 (signed 20 u *ℤ pos (2 ^ 12))

upper_low : (u : ℕ) → u % 2 ^ 20 < 2 ^ 19 → residue 64 (signed 20 u *ℤ pos (2 ^ 12)) ≡ u % 2 ^ 20 * 4096
upper_low u h = ap (λ z. residue 64 (z *ℤ pos (2 ^ 12))) (signed_low 20 u h) ∙ mod-eq_of_lt (omega arith)

times : (k : ℕ) → suc k * 4096 ≡ suc (k * 4096 + 4095)
times k = omega arith

upper_high : (u : ℕ) → 2 ^ 19 ≤ u % 2 ^ 20 → residue 64 (signed 20 u *ℤ pos (2 ^ 12)) ≡ u % 2 ^ 20 * 4096 + 18446744069414584320
upper_high u h = ap (λ z. residue 64 (z *ℤ pos (2 ^ 12))) (signed_high 20 u h) ∙ grind (arith, ints)

lower_low : (n : ℕ) → n % 2 ^ 12 < 2 ^ 11 → residue 64 (signed 12 n) ≡ n % 2 ^ 12
lower_low n h = ap (residue 64) (signed_low 12 n h) ∙ mod-eq_of_lt (omega arith)

lower_high : (n : ℕ) → 2 ^ 11 ≤ n % 2 ^ 12 → residue 64 (signed 12 n) ≡ n % 2 ^ 12 + 18446744073709547520
lower_high n h = ap (residue 64) (signed_high 12 n h) ∙ (omega arith)

pub record Split (n u l : ℕ) : Type 0 where
  pub whole : (u + l) % 2 ^ 32 ≡ n % 2 ^ 32
  pub sum : n < 2 ^ 30 → (u + l) % 2 ^ 64 ≡ n
  pub back : 2 ^ 31 ≤ n → (u + l) % 2 ^ 64 ≡ n + 18446744069414584320

-- the two parts of a number of 32 bits
pub parts : (n : ℕ) → n < 2 ^ 32 → Split n (residue 64 (signed 20 ((n + 2048) / 2 ^ 12) *ℤ pos (2 ^ 12))) (residue 64 (signed 12 n))
parts n h = elim (cases_lt ((n + 2048) / 2 ^ 12 % 2 ^ 20) (2 ^ 19)) [
  | inl p ↦ elim (cases_lt (n % 2 ^ 12) (2 ^ 11)) [
    | inl q ↦ let a = upper_low ((n + 2048) / 2 ^ 12) p in let b = lower_low n q in record { whole = omega arith; sum = λ k. omega arith; back = λ k. omega arith }
    | inr q ↦ let a = upper_low ((n + 2048) / 2 ^ 12) p in let b = lower_high n q in record { whole = omega arith; sum = λ k. omega arith; back = λ k. omega arith }
  ]
  | inr p ↦ elim (cases_lt (n % 2 ^ 12) (2 ^ 11)) [
    | inl q ↦ let a = upper_high ((n + 2048) / 2 ^ 12) p in let b = lower_low n q in record { whole = omega arith; sum = λ k. omega arith; back = λ k. omega arith }
    | inr q ↦ let a = upper_high ((n + 2048) / 2 ^ 12) p in let b = lower_high n q in record { whole = omega arith; sum = λ k. omega arith; back = λ k. omega arith }
  ]
]

-- LUI and ADDIW make a constant of 32 bits
pub made : (c : ℤ) → IsTrue (fits_signed 32 c) → extended 32 (plus (residue 64 (upper c *ℤ pos (2 ^ 12))) (lower c)) ≡ residue 64 c
made c f =
    let n = residue 32 c in
    let u = residue 64 (upper c *ℤ pos (2 ^ 12)) in
    let l = residue 64 (lower c) in
    let lt : n < 2 ^ 32 = residue_below 32 c in
    let e : (u + l) % 2 ^ 64 % 2 ^ 32 ≡ n % 2 ^ 32 = mod_mod (u + l) 32 64 (omega arith) ∙ (parts n lt).whole in
    ap (residue 64) (sym (signed_again 32 ((u + l) % 2 ^ 64)) ∙ ap (signed 32) e ∙ signed_again 32 n ∙ signed_residue 32 c (omega arith) f)

-- LUI and the instruction behind it make an address
pub address : (g : ℕ) → g < 2 ^ 30 → plus (residue 64 (upper (pos g) *ℤ pos (2 ^ 12))) (lower (pos g)) ≡ g
address g h =
    let e : g % 2 ^ 32 ≡ g = omega arith in
    ap (λ n. (residue 64 (signed 20 ((n + 2048) / 2 ^ 12) *ℤ pos (2 ^ 12)) + residue 64 (signed 12 n)) % 2 ^ 64) e
    ∙ (parts g (omega arith)).sum h

-- the distance modulo 2 ^ 32 from one address to another, in an upper and a lower immediate, leads there
pub far : (pc to n : ℕ) → pc < 2 ^ 29 → to < 2 ^ 29 → n ≡ (to + 2 ^ 32 - pc) % 2 ^ 32 →
    plus (plus pc (signed 20 ((n + 2048) / 2 ^ 12) *ℤ pos (2 ^ 12))) (signed 12 n) ≡ to
far pc to n p t e =
    let u = residue 64 (signed 20 ((n + 2048) / 2 ^ 12) *ℤ pos (2 ^ 12)) in
    let l = residue 64 (signed 12 n) in
    let b : n < 2 ^ 32 = omega (arith, e) in
    let q = parts n b in
    elim (cases_lt n (2 ^ 31)) [
      | inl h ↦ let k : n < 2 ^ 30 = omega (arith, e, h) in let s : (u + l) % 2 ^ 64 ≡ n = q.sum k in whole_of pc to n u l p t e k s
      | inr h ↦ let s : (u + l) % 2 ^ 64 ≡ n + 18446744069414584320 = q.back h in back_of pc to n u l p t e h s
    ]
  where
    whole_of : (pc to n u l : ℕ) → pc < 2 ^ 29 → to < 2 ^ 29 → n ≡ (to + 2 ^ 32 - pc) % 2 ^ 32 → n < 2 ^ 30 → (u + l) % 2 ^ 64 ≡ n → ((pc + u) % 2 ^ 64 + l) % 2 ^ 64 ≡ to
    whole_of pc to n u l p t e k s = omega arith

    back_of : (pc to n u l : ℕ) → pc < 2 ^ 29 → to < 2 ^ 29 → n ≡ (to + 2 ^ 32 - pc) % 2 ^ 32 → 2 ^ 31 ≤ n → (u + l) % 2 ^ 64 ≡ n + 18446744069414584320 → ((pc + u) % 2 ^ 64 + l) % 2 ^ 64 ≡ to
    back_of pc to n u l p t e h s = omega arith
