-- Words that spell numbers, and the words of commands.
use Rattle.std.proofs.Common.{◌≡◌, ℕ, ◌^◌, ◌<◌, List, [], ◌∷◌, length, drop, ap, ◌∙◌, sym, subst, arith, rules, false, cond, Result, Ok, Err, Option, IfSome, IfNone, ⊎_elim}
use Rattle.std.specs.Prelude.{◌==◌, slice_index}
use Rattle.std.specs.Fmt.{decimal}
use Rattle.std.specs.Str.Parse.{AllDigits, digits_value, ParsesUnsigned, without_leading_plus}
use Rattle.std.proofs.lemmas.Bool.Decides.{nat_tests}
use Rattle.std.proofs.lemmas.Bool.{cases_lt}
use Rattle.std.proofs.lemmas.Str.Parse.{IsNumeralModel, numerals_by_value}
use Rattle.std.proofs.lemmas.Fmt.{decimal-digits_value, first_decimal, decimal_digit, parse-decimal, decimal_injective}
use Rattle.std.specs.Result.{result_ok}
use Rattle.bk_top.specs.Commands.{IsCanonical}

own : IsNumeralModel (AllDigits 10) (digits_value 10)
own = numerals_by_value (AllDigits 10) (search rules)

zero_is : (n : ℕ) → n < 1 → decimal n ≡ 48 ∷ []
zero_is n h = let e : n ≡ 0 = omega arith in ap decimal e ∙ decimal_digit 0 (omega arith)

-- no number has a zero before its other digits
pub no_leading_zero : (n : ℕ) (bs : List ℕ) → n < 2 ^ 64 → bs ≡ decimal n → 1 < length bs → slice_index bs 0 ≡ 48 → ⊥
no_leading_zero n bs h e more first = ⊎_elim
    (λ z. let l : length bs ≡ 1 = ap length (e ∙ zero_is n z) in omega arith)
    (λ p. let f : slice_index bs 0 ≡ slice_index (decimal n) 0 = ap (λ t. slice_index t 0) e in omega (arith, first_decimal n (omega arith) h))
    (cases_lt n 1)

-- nor a sign
pub no_plus : (n : ℕ) (bs : List ℕ) → n < 2 ^ 64 → bs ≡ decimal n → slice_index bs 0 ≡ 43 → ⊥
no_plus n bs h e first =
    let f : slice_index bs 0 ≡ slice_index (decimal n) 0 = ap (λ t. slice_index t 0) e in
    ⊎_elim
    (λ z. let c : slice_index (decimal n) 0 ≡ 48 = ap (λ t. slice_index t 0) (zero_is n z) in omega arith)
    (λ p. omega (arith, first_decimal n (omega arith) h))
    (cases_lt n 1)

other_test : (c : ℕ) → (c ≡ 43 → ⊥) → (c == 43) ≡ false
other_test c h = grind (arith, nat_tests)

-- a word that is parsed and has neither spells its number
pub spelled : (E : Type 0) (bs : List ℕ) (n : ℕ) → ParsesUnsigned {E = E} 64 10 bs (Ok n) → (slice_index bs 0 ≡ 43 → ⊥) → (1 < length bs → slice_index bs 0 ≡ 48 → ⊥) → (bs ≡ decimal n) × (n < 2 ^ 64)
spelled E bs n (numeral, is) plus zeros =
    let w : without_leading_plus bs ≡ bs = ap (λ b. drop (cond b 1 0) bs) (other_test (slice_index bs 0) plus) in
    let digits : AllDigits 10 bs = subst (AllDigits 10) w numeral.0.1 in
    let some : 0 < length bs = subst (λ t. 0 < length t) w numeral.0.0 in
    let value : n ≡ digits_value 10 bs = is ∙ ap (digits_value 10) w in
    let small : digits_value 10 bs < 2 ^ 64 = subst (λ t. digits_value 10 t < 2 ^ 64) w numeral.1 in
    (sym (ap decimal value ∙ decimal-digits_value own bs digits some (λ f. ⊎_elim (λ l. let q : length bs ≡ 1 = omega arith in q) (λ l. absurd (zeros (omega arith) f)) (cases_lt (length bs) 2)) small), omega arith)

-- a number's word is parsed
pub parsed : {E : Type 0} (bs : List ℕ) (e : E) (n : ℕ) → n < 2 ^ 64 → bs ≡ decimal n → ParsesUnsigned 64 10 bs (Err e) → ⊥
parsed bs e n h is p = let q = parse-decimal 64 n bs (Err e) h h is p in cc

pub same_number : (m n : ℕ) (word : List ℕ) → m < 2 ^ 64 → n < 2 ^ 64 → word ≡ decimal m → word ≡ decimal n → m ≡ n
same_number m n word h k d e = decimal_injective m n h k (sym d ∙ e)

pub canonical : (n : ℕ) (bs : List ℕ) → n < 2 ^ 64 → bs ≡ decimal n → IsCanonical bs
canonical n bs h e = (λ f. no_plus n bs h e f, λ more f. no_leading_zero n bs h e more f)

pub read_found : {E : Type 0} (r : Result ℕ E) (o : Option ℕ) (bs word : List ℕ) → ParsesUnsigned 64 10 bs r → bs ≡ word → o ≡ result_ok r → IsCanonical word → IfSome o (λ n. (word ≡ decimal n) × (n < 2 ^ 64))
read_found {E} (Ok n) o bs word p e h c = subst (λ o. IfSome o (λ n. (word ≡ decimal n) × (n < 2 ^ 64))) (sym h) (spelled E word n (subst (λ t. ParsesUnsigned {E = E} 64 10 t (Ok n)) e p) c.0 c.1)
read_found (Err x) o bs word p e h c = subst (λ o. IfSome o (λ n. (word ≡ decimal n) × (n < 2 ^ 64))) (sym h) tt

pub read_none : {E : Type 0} (r : Result ℕ E) (o : Option ℕ) (bs word : List ℕ) → ParsesUnsigned 64 10 bs r → bs ≡ word → o ≡ result_ok r → IfNone o ((n : ℕ) → n < 2 ^ 64 → word ≡ decimal n → ⊥)
read_none (Ok m) o bs word p e h = subst (λ o. IfNone o ((n : ℕ) → n < 2 ^ 64 → word ≡ decimal n → ⊥)) (sym h) tt
read_none (Err x) o bs word p e h = subst (λ o. IfNone o ((n : ℕ) → n < 2 ^ 64 → word ≡ decimal n → ⊥)) (sym h) (λ n l d. parsed bs x n l (e ∙ d) p)
