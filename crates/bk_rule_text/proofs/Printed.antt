-- What is printed of numbers and variables is read back.
use Rattle.std.proofs.Common.{◌≡◌, ◌⊎◌, inl, inr, ℕ, suc, ◌+◌, ◌-◌, ◌^◌, ◌<◌, min, List, [], ◌∷◌, ◌++◌, length, take, drop, get_or, ap, ◌∙◌, sym, refl, arith, Bool, true, false, cond, Option, Some, None, codes, ℤ, pos, negsuc}
use Rattle.std.specs.Prelude.{◌==◌, ◌||◌, ◌&&◌, nat_lt, if◌then◌else◌, slice_index}
use Rattle.std.specs.Char.{is_ascii_digit, digit_value}
use Rattle.std.specs.Fmt.{decimal, signed_decimal}
use Rattle.std.specs.List.{prefix_len, AllByRecursion}
use Rattle.std.specs.Option.{is_some, option_map, option_map_or}
use Rattle.std.specs.Str.Parse.{AllDigits, digits_value}
use Rattle.std.proofs.Math.Seq.{take-append_seam, drop-append_seam}
use Rattle.std.proofs.lemmas.Bool.Decides.{nat_tests}
use Rattle.std.proofs.lemmas.Fmt.{decimal_is_IsNumeral, first_decimal, decimal_digit}
use Rattle.bk_text.specs.Tokens.{is_blank}
use Rattle.bk_rule_text.specs.Front.{◌>>=◌, unblanked, after}
use Rattle.bk_rule_text.specs.Layout.{type_name, variable}
use Rattle.bk_rule_text.specs.Numbers.{digits_at, decimal_at, begins_digit, sign_at, begins_number, natural_at, negative_at, number_at}
use Rattle.bk_rule_text.specs.Words.{is_word_byte, run_at, word_at, begins_word, begins_name, name_at, types, type_of_name, variable_at}
use Rattle.bk_rule_text.proofs.Numbers.{digit_is}
use Rattle.bk_rule_text.proofs.Runs.{front_append}

-- ---- blanks
pub idle : (c : ℕ) (text : List ℕ) → is_blank c ≡ false → unblanked (c ∷ text) ≡ c ∷ text
unfolding unblanked
idle c text e = ap (λ b. drop (cond b (1 + prefix_len is_blank text) 0) (c ∷ text)) e

-- ---- digits
digit_passes : (c : ℕ) → digit_value c < 10 → is_ascii_digit c ≡ true
digit_passes c h = let d = digit_is c h in grind (arith, nat_tests, d)

digits_pass : (cs : List ℕ) → AllDigits 10 cs → AllByRecursion (λ c. is_ascii_digit c ≡ true) cs
digits_pass [] h = tt
digits_pass (c ∷ cs) h = (digit_passes c h.0, digits_pass cs h.1)

digit_in_word : (c : ℕ) → is_ascii_digit c ≡ true → is_word_byte c ≡ true
unfolding is_word_byte
digit_in_word c h = grind (arith, nat_tests)

pub digits_in_word : (cs : List ℕ) → AllByRecursion (λ c. is_ascii_digit c ≡ true) cs → AllByRecursion (λ c. is_word_byte c ≡ true) cs
digits_in_word [] h = tt
digits_in_word (c ∷ cs) h = (digit_in_word c h.0, digits_in_word cs h.1)

no_word : (rest : List ℕ) → begins_word rest ≡ false → prefix_len is_word_byte rest ≡ 0
unfolding begins_word
no_word [] h = refl
no_word (c ∷ rest) h = ap (λ b. cond b (1 + prefix_len is_word_byte rest) 0) h

not_digit : (c : ℕ) → is_word_byte c ≡ false → is_ascii_digit c ≡ false
not_digit c h = by (is_ascii_digit c) refl
  where
    by : (b : Bool) → is_ascii_digit c ≡ b → b ≡ false
    by true e = let t : is_word_byte c ≡ true = digit_in_word c e in cc
    by false e = refl

no_digit : (rest : List ℕ) → begins_word rest ≡ false → prefix_len is_ascii_digit rest ≡ 0
unfolding begins_word
no_digit [] h = refl
no_digit (c ∷ rest) h = ap (λ b. cond b (1 + prefix_len is_ascii_digit rest) 0) (not_digit c h)

-- the digits of a number
pub record Digits (n : ℕ) (ds : List ℕ) : Type 0 where
  pub all : AllByRecursion (λ c. is_ascii_digit c ≡ true) ds
  pub some : 0 < length ds
  pub lead : (48 < get_or ds 0 0) ⊎ (length ds ≡ 1)
  pub value : digits_value 10 ds ≡ n

lead_of : (n : ℕ) → n < 2 ^ 64 → (b : Bool) → (0 == n) ≡ b → (48 < get_or (decimal n) 0 0) ⊎ (length (decimal n) ≡ 1)
lead_of n h true e = inr (let z : 0 ≡ n = grind (arith, nat_tests) in ap (λ k. length (decimal k)) (sym z) ∙ ap length (decimal_digit 0 (omega arith)))
lead_of n h false e = inl (first_decimal n (let z : 0 < n = grind (arith, nat_tests) in z) h)

pub decimal_digits : (n : ℕ) → n < 2 ^ 64 → Digits n (decimal n)
decimal_digits n h =
    let d = decimal_is_IsNumeral n h in
    record { all = digits_pass (decimal n) d.0.1; some = d.0.0; lead = lead_of n h (0 == n) refl; value = d.1 }

-- ---- decimal numbers
leading : (ds rest : List ℕ) → 0 < length ds → (48 < get_or ds 0 0) ⊎ (length ds ≡ 1) → (length ds == 0 || (slice_index (ds ++ rest) 0 == 48 && nat_lt 1 (length ds))) ≡ false
leading [] rest h l = absurd (omega arith)
leading (c ∷ ds) rest h (inl l) = let g : 48 < c = l in grind (arith, nat_tests)
leading (c ∷ ds) rest h (inr l) = let g : length ds ≡ 0 = omega arith in grind (arith, nat_tests)

abbrev cut_after : List ℕ → ℕ → Option (List ℕ × List ℕ)
cut_after text k =
    if k == 0 || (slice_index text 0 == 48 && nat_lt 1 k) then None
    else if begins_word (drop k text) then None
    else Some (take k text, drop k text)

digits_back : (n : ℕ) (ds rest : List ℕ) → Digits n ds → begins_word rest ≡ false → digits_at (ds ++ rest) ≡ Some (ds, rest)
unfolding digits_at
digits_back n ds rest d w =
    ap (cut_after (ds ++ rest)) (front_append is_ascii_digit ds rest d.all (no_digit rest w))
    ∙ ap (λ b. if b then None else (if begins_word (drop (length ds) (ds ++ rest)) then None else Some (take (length ds) (ds ++ rest), drop (length ds) (ds ++ rest)))) (leading ds rest d.some d.lead)
    ∙ ap (λ t. if begins_word t then None else Some (take (length ds) (ds ++ rest), t)) (drop-append_seam ds rest)
    ∙ ap (λ b. if b then None else Some (take (length ds) (ds ++ rest), rest)) w
    ∙ ap (λ t. Some (t, rest)) (take-append_seam ds rest)

decimal_back : (n : ℕ) (ds rest : List ℕ) → Digits n ds → n < 2 ^ 64 → begins_word rest ≡ false → decimal_at (ds ++ rest) ≡ Some (n, rest)
unfolding decimal_at
decimal_back n ds rest d h w =
    ap (option_map (λ e. (min (digits_value 10 e.0) (2 ^ 64), e.1))) (digits_back n ds rest d w)
    ∙ ap (λ k. Some (min k (2 ^ 64), rest)) d.value
    ∙ (let m : min n (2 ^ 64) ≡ n = omega arith in ap (λ k. Some (k, rest)) m)

natural_back : (n : ℕ) (ds rest : List ℕ) → Digits n ds → n < 2 ^ 63 → begins_word rest ≡ false → natural_at (ds ++ rest) ≡ Some (pos n, rest)
unfolding natural_at
natural_back n ds rest d h w =
    ap (λ o. o >>= λ e. if nat_lt e.0 (2 ^ 63) then Some (pos e.0, e.1) else None) (decimal_back n ds rest d (omega arith) w)
    ∙ (let t : nat_lt n (2 ^ 63) ≡ true = grind (arith, nat_tests) in ap (λ b. if b then Some (pos n, rest) else None) t)

negative_back : (n : ℕ) (ds rest : List ℕ) → Digits (suc n) ds → n < 2 ^ 63 → begins_word rest ≡ false → negative_at (ds ++ rest) ≡ Some (negsuc n, rest)
unfolding negative_at
negative_back n ds rest d h w =
    ap (λ o. o >>= λ e. if e.0 == 0 || nat_lt (2 ^ 63) e.0 then None else Some (negsuc (e.0 - 1), e.1)) (decimal_back (suc n) ds rest d (omega arith) w)
    ∙ (let t : (suc n == 0 || nat_lt (2 ^ 63) (suc n)) ≡ false = grind (arith, nat_tests) in ap (λ b. if b then None else Some (negsuc (suc n - 1), rest)) t)
    ∙ (let p : suc n - 1 ≡ n = omega arith in ap (λ k. Some (negsuc k, rest)) p)

not_blank : (c : ℕ) → is_ascii_digit c ≡ true → is_blank c ≡ false
not_blank c h = grind (arith, nat_tests)

not_minus : (c : ℕ) (text : List ℕ) → is_ascii_digit c ≡ true → after (codes "-") (c ∷ text) ≡ None
unfolding after
not_minus c text h = let t : (45 == c) ≡ false = grind (arith, nat_tests) in ap (λ b. cond b (Some text) None) t

pub record Number (k : ℤ) (text rest : List ℕ) : Type 0 where
  pub solid : unblanked text ≡ text
  pub begins : begins_number text ≡ true
  pub read : number_at text ≡ Some (k, rest)

abbrev signed : List ℕ → Option (List ℕ) → Option (ℤ × List ℕ)
signed text o = option_map_or negative_at o (natural_at text)

natural_number : (n : ℕ) (ds rest : List ℕ) → Digits n ds → n < 2 ^ 63 → begins_word rest ≡ false → Number (pos n) (ds ++ rest) rest
unfolding begins_number sign_at number_at
natural_number n [] rest d h w = absurd (let l : 0 < 0 = d.some in omega arith)
natural_number n (c ∷ ds) rest d h w =
    let s = idle c (ds ++ rest) (not_blank c d.all.0) in
    let m = not_minus c (ds ++ rest) d.all.0 in
    record { solid = s; begins = begin c (ds ++ rest) d.all.0; read = whole s (minus m) }
  where
    begin : (c : ℕ) (t : List ℕ) → is_ascii_digit c ≡ true → begins_number (c ∷ t) ≡ true
    begin c t e = ap (λ b. b || is_some (sign_at (c ∷ t))) e

    minus : after (codes "-") (c ∷ ds ++ rest) ≡ None → sign_at (c ∷ ds ++ rest) ≡ None
    minus e = ap (λ o. o >>= λ r. if begins_digit r then Some r else None) e

    whole : unblanked (c ∷ ds ++ rest) ≡ c ∷ ds ++ rest → sign_at (c ∷ ds ++ rest) ≡ None → number_at (c ∷ ds ++ rest) ≡ Some (pos n, rest)
    whole s e = ap (λ t. signed t (sign_at t)) s ∙ ap (signed (c ∷ ds ++ rest)) e ∙ natural_back n (c ∷ ds) rest d h w

negative_number : (n : ℕ) (ds rest : List ℕ) → Digits (suc n) ds → n < 2 ^ 63 → begins_word rest ≡ false → Number (negsuc n) (45 ∷ ds ++ rest) rest
unfolding sign_at after begins_number number_at
negative_number n [] rest d h w = absurd (let l : 0 < 0 = d.some in omega arith)
negative_number n (c ∷ ds) rest d h w =
    let s = idle 45 (c ∷ ds ++ rest) refl in
    let m = minus d.all.0 in
    record { solid = s; begins = begin m; read = whole s m }
  where
    minus : is_ascii_digit c ≡ true → sign_at (45 ∷ c ∷ ds ++ rest) ≡ Some (c ∷ ds ++ rest)
    minus e = ap (λ b. if b then Some (c ∷ ds ++ rest) else None) e

    begin : sign_at (45 ∷ c ∷ ds ++ rest) ≡ Some (c ∷ ds ++ rest) → begins_number (45 ∷ c ∷ ds ++ rest) ≡ true
    begin e = ap is_some e

    whole : unblanked (45 ∷ c ∷ ds ++ rest) ≡ 45 ∷ c ∷ ds ++ rest → sign_at (45 ∷ c ∷ ds ++ rest) ≡ Some (c ∷ ds ++ rest) → number_at (45 ∷ c ∷ ds ++ rest) ≡ Some (negsuc n, rest)
    whole s e = ap (λ t. signed t (sign_at t)) s ∙ ap (signed (45 ∷ c ∷ ds ++ rest)) e ∙ negative_back n (c ∷ ds) rest d h w

-- the numbers from -2^63 to 2^63 - 1
abbrev pub IsSmall : ℤ → Type 0
IsSmall (pos n) = n < 2 ^ 63
IsSmall (negsuc n) = n < 2 ^ 63

pub number_back : (k : ℤ) (rest : List ℕ) → IsSmall k → begins_word rest ≡ false → Number k (signed_decimal k ++ rest) rest
number_back (pos n) rest h w = natural_number n (decimal n) rest (decimal_digits n (omega arith)) h w
number_back (negsuc n) rest h w = negative_number n (decimal (suc n)) rest (decimal_digits (suc n) (omega arith)) h w

-- ---- words and names
pub word_back : (word rest : List ℕ) → AllByRecursion (λ c. is_word_byte c ≡ true) word → begins_word rest ≡ false → run_at (word ++ rest) ≡ (word, rest)
unfolding run_at
word_back word rest a w =
    ap (λ k. (take k (word ++ rest), drop k (word ++ rest))) (front_append is_word_byte word rest a (no_word rest w))
    ∙ ap (λ t. (t, drop (length word) (word ++ rest))) (take-append_seam word rest)
    ∙ ap (λ t. (word, t)) (drop-append_seam word rest)

pub name_back : (text word rest : List ℕ) → unblanked text ≡ word ++ rest → AllByRecursion (λ c. is_word_byte c ≡ true) word → begins_name word ≡ true → begins_word rest ≡ false → name_at text ≡ Some (word, rest)
unfolding name_at word_at
name_back text word rest u a n w =
    ap (λ t. if begins_name (run_at t).0 then Some (run_at t) else None) u
    ∙ ap (λ p. if begins_name p.0 then Some p else None) (word_back word rest a w)
    ∙ ap (λ b. if b then Some (word, rest) else None) n

-- ---- variables
pub variable_word : (i : ℕ) → i < 2 ^ 64 → AllByRecursion (λ c. is_word_byte c ≡ true) (variable i)
unfolding variable is_word_byte
variable_word i h = (refl, digits_in_word (decimal i) (decimal_digits i h).all)

pub variable_name : (i : ℕ) → begins_name (variable i) ≡ true
unfolding variable begins_name
variable_name i = refl

pub no_type : (i : ℕ) → is_some (type_of_name (variable i)) ≡ false
unfolding variable type_of_name types type_name
no_type i = refl

pub variable_back : (i : ℕ) (text rest : List ℕ) → i < 2 ^ 64 → unblanked text ≡ variable i ++ rest → begins_word rest ≡ false → variable_at text ≡ Some (variable i, rest)
unfolding variable_at
variable_back i text rest h u w =
    ap (λ o. o >>= λ n. if is_some (type_of_name n.0) then None else Some n) (name_back text (variable i) rest u (variable_word i h) (variable_name i) w)
    ∙ ap (λ b. if b then None else Some (variable i, rest)) (no_type i)

digits_solid : (n : ℕ) (ds : List ℕ) → Digits n ds → (t : List ℕ) → unblanked (ds ++ t) ≡ ds ++ t
digits_solid n [] d t = absurd (let l : 0 < 0 = d.some in omega arith)
digits_solid n (c ∷ ds) d t = idle c (ds ++ t) (not_blank c d.all.0)

pub number_solid : (k : ℤ) → IsSmall k → (t : List ℕ) → unblanked (signed_decimal k ++ t) ≡ signed_decimal k ++ t
number_solid (pos n) h t = digits_solid n (decimal n) (decimal_digits n (omega arith)) t
number_solid (negsuc n) h t = idle 45 (decimal (suc n) ++ t) refl

pub number_long : (k : ℤ) → IsSmall k → 0 < length (signed_decimal k)
number_long (pos n) h = let d = decimal_digits n (omega arith) in d.some
number_long (negsuc n) h = omega arith
