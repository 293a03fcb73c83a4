-- The order of signed numbers is that of the numbers with their sign bits turned.
use Rattle.std.proofs.Common.{◌≡◌, ℕ, suc, ◌+◌, ◌-◌, ◌*◌, ◌%◌, ◌^◌, ◌<◌, ◌≤◌, refl, ◌∙◌, arith, Bool, true, false, not, inl, inr, nat_lt, nat_le, pos, negsuc}
use Rattle.std.proofs.lemmas.Bool.{cases_lt}
use Rattle.std.proofs.lemmas.Bool.Decides.{nat_tests}
use Rattle.std.proofs.Math.Nat.{mod-eq_of_lt}
use Rattle.bk_num.specs.Word.{signed}
use Rattle.bk_num.proofs.Powers.{pow_split}
use Rattle.bk_ops.specs.Arithmetic.{as_bit, less}
use Rattle.bk_ops.proofs.Cut.{same_mod}

-- n with its sign bit turned
abbrev pub turned : ℕ → ℕ → ℕ
turned w n = (n + 2 ^ (w - 1)) % 2 ^ w

twice : (w : ℕ) → 1 ≤ w → 2 ^ w ≡ 2 ^ (w - 1) + 2 ^ (w - 1)
twice w l = let e : 2 ^ w ≡ 2 ^ (w - 1) * 2 ^ 1 = pow_split 1 w l in omega arith

pub turned_low : (w x : ℕ) → 1 ≤ w → x < 2 ^ (w - 1) → turned w x ≡ x + 2 ^ (w - 1)
turned_low w x l h = mod-eq_of_lt (omega (arith, twice w l))

pub turned_high : (w x : ℕ) → 1 ≤ w → 2 ^ (w - 1) ≤ x → x < 2 ^ w → turned w x ≡ x - 2 ^ (w - 1)
turned_high w x l h b =
    same_mod (x + 2 ^ (w - 1)) (x - 2 ^ (w - 1)) 0 1 (2 ^ w) (omega (arith, twice w l)) ∙ mod-eq_of_lt (omega arith)

-- what a number of w bits spells
pub signed_low : (w x : ℕ) → 1 ≤ w → x < 2 ^ (w - 1) → signed w x ≡ pos x
signed_low w x l h = let e : x % 2 ^ w ≡ x = mod-eq_of_lt (omega (arith, twice w l)) in grind (arith, nat_tests)

pub signed_high : (w x : ℕ) → 2 ^ (w - 1) ≤ x → x < 2 ^ w → signed w x ≡ negsuc (2 ^ w - suc x)
signed_high w x h b = let e : x % 2 ^ w ≡ x = mod-eq_of_lt b in grind (arith, nat_tests)

pub turned_less : (w x y : ℕ) → 1 ≤ w → x < 2 ^ w → y < 2 ^ w → less w x y ≡ nat_lt (turned w x) (turned w y)
turned_less w x y l h b =
    elim (cases_lt x (2 ^ (w - 1))) [
      | inl i ↦ elim (cases_lt y (2 ^ (w - 1))) [
        | inl j ↦ rw (turned_low w x l i, turned_low w y l j, signed_low w x l i, signed_low w y l j) (grind (arith, nat_tests))
        | inr j ↦ rw (turned_low w x l i, turned_high w y l j b, signed_low w x l i, signed_high w y j b) (grind (arith, nat_tests, twice w l))
      ]
      | inr i ↦ elim (cases_lt y (2 ^ (w - 1))) [
        | inl j ↦ rw (turned_high w x l i h, turned_low w y l j, signed_high w x i h, signed_low w y l j) (grind (arith, nat_tests, twice w l))
        | inr j ↦ rw (turned_high w x l i h, turned_high w y l j b, signed_high w x i h, signed_high w y j b) (grind (arith, nat_tests))
      ]
    ]

-- ---- truth values as numbers
pub not_bit : (t : Bool) → 1 - as_bit t ≡ as_bit (not t)
not_bit true = refl
not_bit false = refl

pub not_not : (t : Bool) → not (not t) ≡ t
not_not true = refl
not_not false = refl

pub not_lt : (x y : ℕ) → not (nat_lt x y) ≡ nat_le y x
not_lt x y = grind (arith, nat_tests)

pub not_le : (x y : ℕ) → not (nat_le x y) ≡ nat_lt y x
not_le x y = grind (arith, nat_tests)
