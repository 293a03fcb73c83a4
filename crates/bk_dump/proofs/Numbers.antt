-- Decimal numbers that count as 2^64 from there on.
use Rattle.std.proofs.Common.{◌≡◌, ℕ, zero, suc, ◌+◌, ◌-◌, ◌*◌, ◌^◌, ◌<◌, ◌≤◌, min, List, [], ◌∷◌, length, take, ap, ◌∙◌, sym, arith, get_or, true}
use Rattle.std.specs.Char.{digit_value, is_ascii_digit}
use Rattle.std.specs.List.{AllByRecursion}
use Rattle.std.specs.Str.Parse.{AllDigits, digits_value}
use Rattle.std.proofs.lemmas.Bool.Decides.{nat_tests}
use Rattle.std.proofs.lemmas.Int.Digits.{digits_value_more}
use Rattle.bk_dump.specs.Words.{digits_len}
use Rattle.bk_dump.proofs.Runs.{front_passes}

pub digit_at : (ds : List ℕ) (i : ℕ) → AllDigits 10 ds → i < length ds → digit_value (get_or ds i 0) < 10
digit_at [] i h l = absurd (omega arith)
digit_at (d ∷ ds) zero h l = h.0
digit_at (d ∷ ds) (suc i) h l = digit_at ds i h.1 (omega arith)

pub digit_is : (c : ℕ) → digit_value c < 10 → (48 ≤ c) × (c ≤ 57) × (digit_value c ≡ c - 48)
digit_is c h = (grind (arith, nat_tests), grind (arith, nat_tests), grind (arith, nat_tests))

value_of_digit : (c : ℕ) → is_ascii_digit c ≡ true → digit_value c < 10
value_of_digit c h = grind (arith, nat_tests)

digits_of_tests : (ds : List ℕ) → AllByRecursion (λ c. is_ascii_digit c ≡ true) ds → AllDigits 10 ds
digits_of_tests [] h = tt
digits_of_tests (d ∷ ds) h = (value_of_digit d h.0, digits_of_tests ds h.1)

pub front_digits : (text : List ℕ) → AllDigits 10 (take (digits_len text) text)
front_digits text = digits_of_tests (take (digits_len text) text) (front_passes is_ascii_digit text)

capped : (v d m : ℕ) → min (min v m * 10 + d) m ≡ min (v * 10 + d) m
capped v d m = omega arith

-- one digit more
pub value_more : (ds : List ℕ) (i v d : ℕ) → AllDigits 10 ds → i < length ds → v ≡ min (digits_value 10 (take i ds)) (2 ^ 64) → d ≡ get_or ds i 0 - 48 → min (v * 10 + d) (2 ^ 64) ≡ min (digits_value 10 (take (i + 1) ds)) (2 ^ 64)
value_more ds i v d a l e g =
    let f = digit_is (get_or ds i 0) (digit_at ds i a l) in
    let m : digits_value 10 (take (i + 1) ds) ≡ digits_value 10 (take i ds) * 10 + d = omega (arith, digits_value_more 10 ds i l, f.2) in
    ap (λ n. min (n * 10 + d) (2 ^ 64)) e ∙ capped (digits_value 10 (take i ds)) d (2 ^ 64) ∙ ap (λ n. min n (2 ^ 64)) (sym m)
