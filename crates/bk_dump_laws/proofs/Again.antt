-- What is spelled at the front of a text is read there.
use Rattle.std.proofs.Common.{◌≡◌, ℕ, suc, ◌+◌, ◌^◌, ◌<◌, ◌≤◌, min, List, [], ◌∷◌, ◌++◌, length, take, drop, ap, ◌∙◌, refl, arith, get_or, Bool, true, false, cond, Option, Some, None, ◌⊎◌, inl, inr, ⊎_elim}
use Rattle.std.specs.Prelude.{◌==◌, ◌&&◌, ◌||◌, nat_lt, slice_index}
use Rattle.std.specs.Char.{digit_value, is_ascii_digit}
use Rattle.std.specs.Fmt.{decimal}
use Rattle.std.specs.List.{prefix_len, AllByRecursion}
use Rattle.std.specs.Option.{option_map}
use Rattle.std.specs.Str.Parse.{AllDigits, digits_value}
use Rattle.std.proofs.lemmas.Bool.Decides.{nat_tests}
use Rattle.std.proofs.lemmas.Bool.{cases_lt}
use Rattle.std.proofs.lemmas.List.{drop_at, take_at, get_or_append_left}
use Rattle.std.proofs.lemmas.Fmt.{decimal_is_IsNumeral, first_decimal, decimal_digit}
use Rattle.bk_text.specs.Tokens.{is_blank}
use Rattle.bk_dump.specs.Front.{◌>>=◌, unblanked, after, front_at}
use Rattle.bk_dump.specs.Words.{is_name_byte, is_plain_byte, as_utf8, utf8_at, name_at, plain_at, digits_len, digits_at, decimal_at, number_at}
use Rattle.bk_dump.specs.Parts.{IsNameOf}
use Rattle.bk_dump.proofs.Runs.{front_append}

-- the text begins with no byte that passes the test
abbrev pub Stops : (ℕ → Bool) → List ℕ → Type 0
Stops p text = prefix_len p text ≡ 0

pub after_again : (w r : List ℕ) → after w (w ++ r) ≡ Some r
unfolding after
after_again [] r = refl
after_again (c ∷ w) r =
    let e : (c == c) ≡ true = grind (arith, nat_tests) in
    ap (λ b. cond b (after w (w ++ r)) None) e ∙ after_again w r

pub unblanked_same : (text : List ℕ) → Stops is_blank text → unblanked text ≡ text
unfolding unblanked
unblanked_same text h = ap (λ k. drop k text) h

pub unblanked_space : (text : List ℕ) → unblanked (32 ∷ text) ≡ unblanked text
unfolding unblanked
unblanked_space text = ap (λ k. drop k (32 ∷ text)) (let q : 1 + prefix_len is_blank text ≡ suc (prefix_len is_blank text) = omega arith in q)

positive : (n : ℕ) → 0 < n → (n == 0) ≡ false
positive n h = grind (arith, nat_tests)

-- what is tested for UTF-8
abbrev tested : Option (List ℕ × List ℕ) → Option (List ℕ × List ℕ)
tested o = o >>= λ x. as_utf8 x.0 >>= λ t. Some (t, x.1)

abbrev followed : List ℕ → Option (List ℕ) → Option (List ℕ × List ℕ)
followed r o = o >>= λ t. Some (t, r)

pub utf8_again : (p : ℕ → Bool) (n r : List ℕ) → IsNameOf p n → Stops p r → utf8_at (prefix_len p (n ++ r)) (n ++ r) ≡ Some (n, r)
unfolding utf8_at
utf8_again p n r h s =
    let len : prefix_len p (n ++ r) ≡ length n = front_append p n r h.bytes s in
    ap (λ k. tested (front_at k (n ++ r))) len
    ∙ ap (λ b. tested (cond b None (Some (take (length n) (n ++ r), drop (length n) (n ++ r))))) (positive (length n) h.some)
    ∙ ap (λ t. followed (drop (length n) (n ++ r)) (as_utf8 t)) (take_at n r (length n) refl)
    ∙ ap (λ b. followed (drop (length n) (n ++ r)) (cond b (Some n) None)) h.utf8
    ∙ ap (λ t. Some (n, t)) (drop_at n r (length n) refl)

name_byte_solid : (c : ℕ) → is_name_byte c ≡ true → is_blank c ≡ false
unfolding is_name_byte
name_byte_solid c h = grind (arith, nat_tests)

plain_byte_solid : (c : ℕ) → is_plain_byte c ≡ true → is_blank c ≡ false
unfolding is_plain_byte is_name_byte
plain_byte_solid c h = grind (arith, nat_tests)

-- a run of bytes that are no blanks
solid : (p : ℕ → Bool) (n r : List ℕ) → ((c : ℕ) → p c ≡ true → is_blank c ≡ false) → IsNameOf p n → Stops is_blank (n ++ r)
solid p [] r f h = absurd (omega (arith, h.some))
solid p (c ∷ cs) r f h = ap (λ b. cond b (1 + prefix_len is_blank (cs ++ r)) 0) (f c h.bytes.0)

pub name_again : (n r : List ℕ) → IsNameOf is_name_byte n → Stops is_name_byte r → name_at (n ++ r) ≡ Some (n, r)
unfolding name_at
name_again n r h s =
    ap (λ t. utf8_at (prefix_len is_name_byte t) t) (unblanked_same (n ++ r) (solid is_name_byte n r name_byte_solid h)) ∙ utf8_again is_name_byte n r h s

pub next_name_again : (n r : List ℕ) → IsNameOf is_name_byte n → Stops is_name_byte r → name_at (32 ∷ (n ++ r)) ≡ Some (n, r)
unfolding name_at
next_name_again n r h s = ap (λ t. utf8_at (prefix_len is_name_byte t) t) (unblanked_space (n ++ r)) ∙ name_again n r h s

pub plain_again : (n r : List ℕ) → IsNameOf is_plain_byte n → Stops is_plain_byte r → plain_at (n ++ r) ≡ Some (n, r)
unfolding plain_at
plain_again n r h s =
    ap (λ t. utf8_at (prefix_len is_plain_byte t) t) (unblanked_same (n ++ r) (solid is_plain_byte n r plain_byte_solid h)) ∙ utf8_again is_plain_byte n r h s

pub next_plain_again : (n r : List ℕ) → IsNameOf is_plain_byte n → Stops is_plain_byte r → plain_at (32 ∷ (n ++ r)) ≡ Some (n, r)
unfolding plain_at
next_plain_again n r h s = ap (λ t. utf8_at (prefix_len is_plain_byte t) t) (unblanked_space (n ++ r)) ∙ plain_again n r h s

digit_of_value : (c : ℕ) → digit_value c < 10 → is_ascii_digit c ≡ true
digit_of_value c h = grind (arith, nat_tests)

pub tests_of_digits : (ds : List ℕ) → AllDigits 10 ds → AllByRecursion (λ c. is_ascii_digit c ≡ true) ds
tests_of_digits [] h = tt
tests_of_digits (d ∷ ds) h = (digit_of_value d h.0, tests_of_digits ds h.1)

guard_make : (n c : ℕ) → 0 < n → (n ≡ 1) ⊎ (48 < c) → (n == 0 || (c == 48 && nat_lt 1 n)) ≡ false
guard_make n c h o = elim o [ inl e ↦ grind (arith, nat_tests) | inr g ↦ grind (arith, nat_tests) ]

digits_again : (n : ℕ) (r : List ℕ) → n < 2 ^ 64 → digits_len r ≡ 0 → digits_at (decimal n ++ r) ≡ Some (decimal n, r)
unfolding digits_at
digits_again n r h e =
    let ds = decimal n in
    let m = decimal_is_IsNumeral n h in
    let f : digits_len (ds ++ r) ≡ length ds = front_append is_ascii_digit ds r (tests_of_digits ds m.0.1) e in
    let c : slice_index (ds ++ r) 0 ≡ get_or ds 0 0 = get_or_append_left ds r 0 0 m.0.0 in
    let o : (length ds ≡ 1) ⊎ (48 < slice_index (ds ++ r) 0) = ⊎_elim (λ z. inl (let q : n ≡ 0 = omega arith in ap (λ k. length (decimal k)) q ∙ ap length (decimal_digit 0 (omega arith)))) (λ z. inr (omega (arith, first_decimal n (omega arith) h, c))) (cases_lt n 1) in
    let g = guard_make (length ds) (slice_index (ds ++ r) 0) m.0.0 o in
    ap (λ k. cond (k == 0 || (slice_index (ds ++ r) 0 == 48 && nat_lt 1 k)) None (Some (take k (ds ++ r), drop k (ds ++ r)))) f
    ∙ ap (λ b. cond b None (Some (take (length ds) (ds ++ r), drop (length ds) (ds ++ r)))) g
    ∙ ap (λ t. Some (t, drop (length ds) (ds ++ r))) (take_at ds r (length ds) refl)
    ∙ ap (λ t. Some (ds, t)) (drop_at ds r (length ds) refl)

pub decimal_again : (n : ℕ) (r : List ℕ) → n < 2 ^ 64 → digits_len r ≡ 0 → decimal_at (decimal n ++ r) ≡ Some (n, r)
unfolding decimal_at
decimal_again n r h e =
    ap (λ o. option_map (λ d. (min (digits_value 10 d.0) (2 ^ 64), d.1)) o) (digits_again n r h e)
    ∙ ap (λ v. Some (min v (2 ^ 64), r)) (decimal_is_IsNumeral n h).1
    ∙ ap (λ v. Some (v, r)) (let q : min n (2 ^ 64) ≡ n = omega arith in q)

pub number_again : (letter : List ℕ) (n : ℕ) (r : List ℕ) → n ≤ 2147483647 → digits_len r ≡ 0 → number_at letter (letter ++ (decimal n ++ r)) ≡ Some (n, r)
unfolding number_at
number_again letter n r h e =
    ap (λ o. o >>= λ a. decimal_at a >>= λ m. Some (min m.0 4294967295, m.1)) (after_again letter (decimal n ++ r))
    ∙ ap (λ o. o >>= λ m. Some (min m.0 4294967295, m.1)) (decimal_again n r (omega arith) e)
    ∙ ap (λ v. Some (v, r)) (let q : min n 4294967295 ≡ n = omega arith in q)
