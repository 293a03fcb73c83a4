-- Texts that are written part by part, without bytes below 32.
use Rattle.std.proofs.Common.{◌≡◌, ℕ, suc, ◌^◌, ◌<◌, ◌≤◌, List, [], ◌∷◌, ◌++◌, length, ap, ◌∙◌, sym, refl, subst, arith, append_assoc, append-nil, Bool, true, false, ⊎_elim}
use Rattle.std.specs.Prelude.{◌==◌, nat_le}
use Rattle.std.specs.Fmt.{decimal}
use Rattle.std.specs.List.{AllByRecursion, AllZip, list_all}
use Rattle.std.specs.Str.Parse.{AllDigits}
use Rattle.std.proofs.lemmas.Bool.{cases_lt}
use Rattle.std.proofs.lemmas.Bool.Decides.{nat_tests}
use Rattle.std.proofs.lemmas.Fmt.{decimal_is_IsNumeral, first_decimal, decimal_digit}
use Rattle.bk_dump.specs.Words.{is_name_byte, is_plain_byte, is_word_byte}
use Rattle.bk_dump.specs.Parts.{Part, word, mark, bytes_of, AreBlanks, BeginsBlank, Apart, Lays, IsName, IsPlainName, IsDecimal, IsNumbered}
use Rattle.bk_dump.specs.Print.{numbers}
use Rattle.bk_dump_laws.specs.Printed.{IsShort, AreShort}
use Rattle.bk_dump.proofs.Runs.{both_hold}
use Rattle.bk_dump.proofs.Numbers.{digit_is}

abbrev pub Solid : List ℕ → Type 0
Solid text = AllByRecursion (λ c. 32 ≤ c) text

pub solid_append : (xs ys : List ℕ) → Solid xs → Solid ys → Solid (xs ++ ys)
solid_append [] ys h g = g
solid_append (x ∷ xs) ys h g = (h.0, solid_append xs ys h.1 g)

pub solid_if : (p : ℕ → Bool) (text : List ℕ) → ((c : ℕ) → p c ≡ true → 32 ≤ c) → AllByRecursion (λ c. p c ≡ true) text → Solid text
solid_if p [] f h = tt
solid_if p (c ∷ text) f h = (f c h.0, solid_if p text f h.1)

pub more_than_none : (n : ℕ) → (suc n == 0) ≡ false
more_than_none n = grind (arith, nat_tests)

at_least : (c : ℕ) → nat_le 32 c ≡ true → 32 ≤ c
at_least c h = grind (arith, nat_tests)

pub solid_text : (text : List ℕ) → list_all (nat_le 32) text ≡ true → Solid text
solid_text [] h = tt
solid_text (c ∷ text) h = let q = both_hold (nat_le 32 c) (list_all (nat_le 32) text) h in (at_least c q.0, solid_text text q.1)

name_byte : (c : ℕ) → is_name_byte c ≡ true → 32 ≤ c
unfolding is_name_byte
name_byte c h = grind (arith, nat_tests)

plain_byte : (c : ℕ) → is_plain_byte c ≡ true → 32 ≤ c
unfolding is_plain_byte is_name_byte
plain_byte c h = grind (arith, nat_tests)

word_byte : (c : ℕ) → is_word_byte c ≡ true → 32 ≤ c
unfolding is_word_byte
word_byte c h = grind (arith, nat_tests)

pub name_solid : (n : List ℕ) → IsName n → Solid n
name_solid n h = solid_if is_name_byte n name_byte h.bytes

pub plain_solid : (n : List ℕ) → IsPlainName n → Solid n
plain_solid n h = solid_if is_plain_byte n plain_byte h.bytes

pub word_solid : (w : List ℕ) → AllByRecursion (λ c. is_word_byte c ≡ true) w → Solid w
word_solid w h = solid_if is_word_byte w word_byte h

solid_digits : (ds : List ℕ) → AllDigits 10 ds → Solid ds
solid_digits [] h = tt
solid_digits (d ∷ ds) h = (let f = digit_is d h.0 in omega arith, solid_digits ds h.1)

pub solid_decimal : (n : ℕ) → n < 2 ^ 64 → Solid (decimal n)
solid_decimal n h = solid_digits (decimal n) (decimal_is_IsNumeral n h).0.1

-- Parts.

abbrev pub Writes : List Part → List ℕ → Type 0
Writes parts text = Lays parts text × Solid text

-- a word in front stands behind a blank
abbrev pub Begins : List Part → List ℕ → Type 0
Begins [] text = Unit {0}
Begins ((mark bytes) ∷ more) text = Unit {0}
Begins ((word bytes) ∷ more) text = BeginsBlank text

apart : (w : List ℕ) (more : List Part) (text : List ℕ) → Begins more text → Apart (word w) more text
apart w [] text h = tt
apart w ((mark m) ∷ more) text h = tt
apart w ((word v) ∷ more) text h = h

pub writes_mark : (m : List ℕ) (more : List Part) (text : List ℕ) → Solid m → Writes more text → Writes (mark m ∷ more) (m ++ text)
writes_mark m more text s w = (([], text, refl, tt, tt, w.0), solid_append m text s w.1)

pub writes_word : (v : List ℕ) (more : List Part) (text : List ℕ) → Solid v → Begins more text → Writes more text → Writes (word v ∷ more) (v ++ text)
writes_word v more text s b w = (([], text, refl, tt, apart v more text b, w.0), solid_append v text s w.1)

pub writes_last : (w : List ℕ) → Solid w → Writes (word w ∷ []) w
writes_last w s = subst (Writes (word w ∷ [])) (append-nil w) (writes_word w [] [] s tt (tt, tt))

pub spaced : (parts : List Part) (text : List ℕ) → Writes parts text → Writes parts (32 ∷ text)
spaced [] text w = ((refl, w.0), (omega arith, w.1))
spaced (p ∷ ps) text w = let l = w.0 in ((32 ∷ l.0, l.1, ap (λ t. 32 ∷ t) l.2, (refl, l.3), l.4, l.5), (omega arith, w.1))

-- One behind another.

blanks_append : (gap more : List ℕ) → AreBlanks gap → AreBlanks more → AreBlanks (gap ++ more)
blanks_append [] more h g = g
blanks_append (c ∷ gap) more h g = (h.0, blanks_append gap more h.1 g)

blanks_then : (ps : List Part) (gap text : List ℕ) → AreBlanks gap → Lays ps text → Lays ps (gap ++ text)
blanks_then [] gap text h l = blanks_append gap text h l
blanks_then (p ∷ ps) gap text h l = (gap ++ l.0, l.1, ap (λ t. gap ++ t) l.2 ∙ sym (append_assoc gap l.0 (bytes_of p ++ l.1)), blanks_append gap l.0 h l.3, l.4, l.5)

begins_behind : (qs : List Part) (gap text : List ℕ) → AreBlanks gap → Begins qs text → Begins qs (gap ++ text)
begins_behind [] gap text h b = tt
begins_behind ((mark m) ∷ qs) gap text h b = tt
begins_behind ((word w) ∷ qs) [] text h b = b
begins_behind ((word w) ∷ qs) (c ∷ gap) text h b = h.0

longer_blank : (text more : List ℕ) → BeginsBlank text → BeginsBlank (text ++ more)
longer_blank [] more h = absurd h
longer_blank (c ∷ text) more h = h

apart_append : (p : Part) (ps qs : List Part) (r text : List ℕ) → Apart p ps r → Lays ps r → Begins qs text → Apart p (ps ++ qs) (r ++ text)
apart_append (mark m) ps qs r text a l b = tt
apart_append (word w) [] qs r text a l b = apart w qs (r ++ text) (begins_behind qs r text l b)
apart_append (word w) ((mark m) ∷ ps) qs r text a l b = tt
apart_append (word w) ((word v) ∷ ps) qs r text a l b = longer_blank r text a

lays_append : (ps qs : List Part) (text more : List ℕ) → Lays ps text → Lays qs more → Begins qs more → Lays (ps ++ qs) (text ++ more)
lays_append [] qs text more l m b = blanks_then qs text more l m
lays_append (p ∷ ps) qs text more l m b = (
  l.0,
  l.1 ++ more,
  ap (λ t. t ++ more) l.2 ∙ append_assoc l.0 (bytes_of p ++ l.1) more ∙ ap (λ t. l.0 ++ t) (append_assoc (bytes_of p) l.1 more),
  l.3,
  apart_append p ps qs l.1 more l.4 l.5 b,
  lays_append ps qs l.1 more l.5 m b,
)

pub writes_append : (ps qs : List Part) (text more : List ℕ) → Writes ps text → Writes qs more → Begins qs more → Writes (ps ++ qs) (text ++ more)
writes_append ps qs text more w v b = (lays_append ps qs text more w.0 v.0 b, solid_append text more w.1 v.1)

-- Numbers.

pub is_decimal : (n : ℕ) → n < 2 ^ 64 → IsDecimal (decimal n) n
is_decimal n h =
    let m = decimal_is_IsNumeral n h in
    record {
      some = m.0.0;
      digits = m.0.1;
      leading = λ e. ⊎_elim (λ z. let q : n ≡ 0 = omega arith in ap (λ k. length (decimal k)) q ∙ ap length (decimal_digit 0 (omega arith))) (λ z. absurd (omega (arith, first_decimal n (omega arith) h, e))) (cases_lt n 1);
      value = sym m.1;
    }

pub is_numbered : (letter : List ℕ) (n : ℕ) → IsShort n → IsNumbered letter (word (letter ++ decimal n)) n
is_numbered letter n h = (decimal n, n, is_decimal n (omega arith), refl, omega arith)

pub numbered_solid : (letter : List ℕ) (n : ℕ) → Solid letter → IsShort n → Solid (letter ++ decimal n)
numbered_solid letter n s h = solid_append letter (decimal n) s (solid_decimal n (omega arith))

-- each behind its letter
abbrev pub number_parts : List ℕ → List ℕ → List Part
number_parts letter [] = []
number_parts letter (n ∷ ns) = word (letter ++ decimal n) ∷ number_parts letter ns

pub numbers_are : (letter ns : List ℕ) → AreShort ns → AllZip (IsNumbered letter) (number_parts letter ns) ns
numbers_are letter [] h = tt
numbers_are letter (n ∷ ns) h = (is_numbered letter n h.0, numbers_are letter ns h.1)

pub numbers_begin : (letter ns : List ℕ) → Begins (number_parts letter ns) (numbers (32 ∷ letter) ns)
unfolding numbers
numbers_begin letter [] = tt
numbers_begin letter (n ∷ ns) = refl

pub writes_numbers : (letter ns : List ℕ) → Solid letter → AreShort ns → Writes (number_parts letter ns) (numbers (32 ∷ letter) ns)
unfolding numbers
writes_numbers letter [] s h = (tt, tt)
writes_numbers letter (n ∷ ns) s h =
    spaced (number_parts letter (n ∷ ns)) ((letter ++ decimal n) ++ numbers (32 ∷ letter) ns)
    (writes_word (letter ++ decimal n) (number_parts letter ns) (numbers (32 ∷ letter) ns) (numbered_solid letter n s h.0) (numbers_begin letter ns) (writes_numbers letter ns s h.1))
