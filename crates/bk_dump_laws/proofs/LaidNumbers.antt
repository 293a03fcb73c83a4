-- Lines laid out by parts: numbers, one and many, and the groups that end a line.
use Rattle.std.proofs.Common.{◌≡◌, ℕ, zero, suc, ◌+◌, ◌^◌, ◌<◌, min, List, [], ◌∷◌, ◌++◌, length, take, drop, ap, ◌∙◌, sym, refl, subst, arith, append_assoc, Bool, true, false, cond, Option, Some, None}
use Rattle.std.specs.Prelude.{◌==◌, ◌||◌, ◌&&◌, nat_lt, slice_index}
use Rattle.std.specs.Char.{is_ascii_digit}
use Rattle.std.specs.List.{prefix_len, AllZip}
use Rattle.std.specs.Option.{option_map, option_map_or}
use Rattle.std.specs.Str.Parse.{digits_value}
use Rattle.std.proofs.lemmas.Bool.Decides.{nat_tests}
use Rattle.std.proofs.lemmas.List.{drop_at, take_at, take-append-drop, get_or_append_left}
use Rattle.std.proofs.lemmas.List.Folds.{length-prefix_len}
use Rattle.bk_text.specs.Tokens.{is_blank}
use Rattle.bk_dump.specs.Front.{◌>>=◌, unblanked, gap_at, after, run_at, onto, many, every}
use Rattle.bk_dump.specs.Words.{digits_len, digits_at, decimal_at, number_at, next_number_at, numbers_at}
use Rattle.bk_dump.specs.Parts.{Part, word, mark, BeginsBlank, Apart, Lays, IsDecimal, IsNumbered}
use Rattle.bk_dump.proofs.Runs.{front_append}
use Rattle.bk_dump.proofs.Numbers.{front_digits}
use Rattle.bk_dump_laws.proofs.Again.{Stops, after_again, tests_of_digits}
use Rattle.bk_dump.proofs.Every.{every_none, every_some}
use Rattle.bk_dump.proofs.Shrinking.{bind_some, map_some, unless_true, if_true, next_number_shrinks}
use Rattle.bk_dump_laws.proofs.Laying.{some_is, run_stops, stops_at, unblanked_gap, unblanked_over, after_is, blank_empty, Halts, IsSolid, behind_word}

-- One number.

guard_of : (n c : ℕ) → (n == 0 || (c == 48 && nat_lt 1 n)) ≡ false → (0 < n) × (c ≡ 48 → n ≡ 1)
guard_of n c h = (grind (arith, nat_tests), λ e. grind (arith, nat_tests))

guard_made : (n c : ℕ) → 0 < n → (c ≡ 48 → n ≡ 1) → (n == 0 || (c == 48 && nat_lt 1 n)) ≡ false
guard_made n c h g = grind (arith, nat_tests)

first_of : (ds r : List ℕ) → 0 < length ds → slice_index (ds ++ r) 0 ≡ slice_index ds 0
first_of ds r h = get_or_append_left ds r 0 0 h

pub decimal_is : (text : List ℕ) (n : ℕ) (r : List ℕ) → decimal_at text ≡ Some (n, r)
    → (ds : List ℕ) × (all : ℕ) × IsDecimal ds all × (text ≡ ds ++ r) × (n ≡ min all (2 ^ 64)) × Stops is_ascii_digit r
unfolding decimal_at digits_at
decimal_is text n r h =
    let d = map_some _ (digits_at text) (n, r) h in
    let q = unless_true _ (Some (run_at is_ascii_digit text)) d.0 d.1 in
    let k = digits_len text in
    let ds = take k text in
    let cut : run_at is_ascii_digit text ≡ d.0 = some_is _ d.0 q.1 in
    let whole : ds ++ drop k text ≡ text = take-append-drop k text in
    let long : length ds ≡ k = length-prefix_len is_ascii_digit text in
    let g = guard_of k (slice_index text 0) q.0 in
    let some : 0 < length ds = omega (arith, g.0, long) in
    let first : slice_index text 0 ≡ slice_index ds 0 = ap (λ t. slice_index t 0) (sym whole) ∙ first_of ds (drop k text) some in
    let value : n ≡ min (digits_value 10 ds) (2 ^ 64) = sym (ap (λ x. x.0) d.2) ∙ ap (λ x. min (digits_value 10 x.0) (2 ^ 64)) (sym cut) in
    let rest : drop k text ≡ r = ap (λ x. x.1) cut ∙ ap (λ x. x.1) d.2 in (
      ds,
      digits_value 10 ds,
      record { some = some; digits = front_digits text; leading = λ e. long ∙ g.1 (first ∙ e); value = refl },
      sym whole ∙ ap (λ t. ds ++ t) rest,
      value,
      subst (Stops is_ascii_digit) rest (run_stops is_ascii_digit text),
    )

abbrev valued : Option (List ℕ × List ℕ) → Option (ℕ × List ℕ)
valued o = option_map (λ d. (min (digits_value 10 d.0) (2 ^ 64), d.1)) o

abbrev pair_of : List ℕ → List ℕ → List ℕ × List ℕ
pair_of ds r = (ds, r)

pub decimal_over : (ds r : List ℕ) (all : ℕ) → IsDecimal ds all → Stops is_ascii_digit r → decimal_at (ds ++ r) ≡ Some (min all (2 ^ 64), r)
unfolding decimal_at digits_at
decimal_over ds r all h s =
    let len : digits_len (ds ++ r) ≡ length ds = front_append is_ascii_digit ds r (tests_of_digits ds h.digits) s in
    let g = guard_made (length ds) (slice_index (ds ++ r) 0) h.some (λ e. h.leading (sym (first_of ds r h.some) ∙ e)) in
    ap (λ k. valued (cond (k == 0 || (slice_index (ds ++ r) 0 == 48 && nat_lt 1 k)) None (Some (pair_of (take k (ds ++ r)) (drop k (ds ++ r)))))) len
    ∙ ap (λ b. valued (cond b None (Some (pair_of (take (length ds) (ds ++ r)) (drop (length ds) (ds ++ r)))))) g
    ∙ ap (λ t. valued (Some (pair_of t (drop (length ds) (ds ++ r))))) (take_at ds r (length ds) refl)
    ∙ ap (λ t. valued (Some (pair_of ds t))) (drop_at ds r (length ds) refl)
    ∙ ap (λ v. Some (min v (2 ^ 64), r)) (sym h.value)

capped : (n : ℕ) → min (min n (2 ^ 64)) 4294967295 ≡ min n 4294967295
capped n = omega arith

-- the number of a value or a block
pub record Numbered (letter text : List ℕ) (n : ℕ) (r : List ℕ) : Type 0 where
  pub bytes : List ℕ
  pub is : IsNumbered letter (word bytes) n
  pub cut : text ≡ bytes ++ r
  pub stops : Stops is_ascii_digit r

pub number_is : (letter text : List ℕ) (n : ℕ) (r : List ℕ) → number_at letter text ≡ Some (n, r) → Numbered letter text n r
unfolding number_at
number_is letter text n r h =
    let a = bind_some (after letter text) _ (n, r) h in
    let d = bind_some (decimal_at a.0) _ (n, r) a.2 in
    let same : (min d.0.0 4294967295, d.0.1) ≡ (n, r) = some_is _ (n, r) d.2 in
    let f = decimal_is a.0 d.0.0 d.0.1 d.1 in
    let rest : d.0.1 ≡ r = ap (λ x. x.1) same in
    record {
      bytes = letter ++ f.0;
      is = (f.0, f.1, f.2, refl, sym (ap (λ x. x.0) same) ∙ ap (λ v. min v 4294967295) f.4 ∙ capped f.1);
      cut = after_is letter text a.0 a.1 ∙ ap (λ t. letter ++ t) f.3 ∙ sym (append_assoc letter f.0 d.0.1) ∙ ap (λ t. (letter ++ f.0) ++ t) rest;
      stops = subst (Stops is_ascii_digit) rest f.5;
    }

pub number_over : (letter ds r : List ℕ) (all : ℕ) → IsDecimal ds all → Stops is_ascii_digit r → number_at letter ((letter ++ ds) ++ r) ≡ Some (min all 4294967295, r)
unfolding number_at
number_over letter ds r all h s =
    ap (λ t. after letter t >>= λ a. decimal_at a >>= λ n. Some (min n.0 4294967295, n.1)) (append_assoc letter ds r)
    ∙ ap (λ o. o >>= λ a. decimal_at a >>= λ n. Some (min n.0 4294967295, n.1)) (after_again letter (ds ++ r))
    ∙ ap (λ o. o >>= λ n. Some (min n.0 4294967295, n.1)) (decimal_over ds r all h s)
    ∙ ap (λ v. Some (v, r)) (capped all)

pub digits_solid : IsSolid is_ascii_digit
digits_solid = record { by = λ c h. grind (arith, nat_tests) }

-- Numbers behind blanks.

letter_front : (c : ℕ) (bytes r : List ℕ) → is_blank c ≡ false → Stops is_blank ((c ∷ bytes) ++ r)
letter_front c bytes r h = stops_at is_blank c (bytes ++ r) h

-- the first number, behind any blanks
pub first_lays : (letter text : List ℕ) (n : ℕ) (r : List ℕ) (more : List Part) → (f : Numbered letter (unblanked text) n r) → Apart (word f.bytes) more r → Lays more r → Lays (word f.bytes ∷ more) text
first_lays letter text n r more f a l = let g = unblanked_gap text in (g.0, r, g.1 ∙ ap (λ t. g.0 ++ t) f.cut, g.2, a, l)

-- a number is read, and what is behind it is laid out by the other parts
pub record ReadsNumber (read : Option (ℕ × List ℕ)) (n : ℕ) (part : Part) (more : List Part) : Type 0 where
  pub rest : List ℕ
  pub is : read ≡ Some (n, rest)
  pub apart : Apart part more rest
  pub laid : Lays more rest

pub first_reads : (c : ℕ) (part : Part) (n : ℕ) (more : List Part) (text : List ℕ) → is_blank c ≡ false → IsNumbered (c ∷ []) part n → Halts is_ascii_digit more → Lays (part ∷ more) text
    → ReadsNumber (number_at (c ∷ []) (unblanked text)) n part more
first_reads c part n more text s h g l =
    let ds = h.0 in
    let all = h.1 in
    let k : Lays (word (c ∷ ds) ∷ more) text = subst (λ p. Lays (p ∷ more) text) h.3 l in
    let r = k.1 in
    let front : unblanked text ≡ (c ∷ ds) ++ r = ap unblanked k.2 ∙ unblanked_over k.0 ((c ∷ ds) ++ r) k.3 (letter_front c ds r s) in
    let stops : Stops is_ascii_digit r = behind_word is_ascii_digit (c ∷ ds) more r digits_solid k.4 k.5 g in
    record {
      rest = r;
      is = ap (number_at (c ∷ [])) front ∙ number_over (c ∷ []) ds r all h.2 stops ∙ ap (λ v. Some (v, r)) (sym h.4);
      apart = subst (λ p. Apart p more r) (sym h.3) k.4;
      laid = k.5;
    }

-- at least one blank
unblanked_more : (c : ℕ) (text : List ℕ) → is_blank c ≡ true → unblanked (c ∷ text) ≡ unblanked text
unfolding unblanked
unblanked_more c text h =
    ap (λ b. drop (cond b (1 + prefix_len is_blank text) 0) (c ∷ text)) h ∙ ap (λ n. drop n (c ∷ text)) (let q : 1 + prefix_len is_blank text ≡ suc (prefix_len is_blank text) = omega arith in q)

gap_is : (text r : List ℕ) → gap_at text ≡ Some r → BeginsBlank text × (unblanked text ≡ r)
unfolding gap_at
gap_is [] r h = absurd (cc)
gap_is (c ∷ text) r h = let q = if_true (is_blank c) (Some (unblanked text)) r h in (q.0, unblanked_more c text q.0 ∙ some_is (unblanked text) r q.1)

gap_over : (text : List ℕ) → BeginsBlank text → gap_at text ≡ Some (unblanked text)
unfolding gap_at
gap_over [] h = absurd h
gap_over (c ∷ text) h = ap (λ b. cond b (Some (unblanked text)) None) h ∙ ap Some (sym (unblanked_more c text h))

-- a number behind blanks
pub record Next (letter text : List ℕ) (n : ℕ) (r : List ℕ) : Type 0 where
  pub begins : BeginsBlank text
  pub here : Numbered letter (unblanked text) n r

pub next_is : (letter text : List ℕ) (n : ℕ) (r : List ℕ) → next_number_at letter text ≡ Some (n, r) → Next letter text n r
unfolding next_number_at
next_is letter text n r h =
    let a = bind_some (gap_at text) _ (n, r) h in
    let g = gap_is text a.0 a.1 in
    record { begins = g.0; here = number_is letter (unblanked text) n r (ap (number_at letter) g.1 ∙ a.2) }

pub next_over : (letter text : List ℕ) (o : Option (ℕ × List ℕ)) → BeginsBlank text → number_at letter (unblanked text) ≡ o → next_number_at letter text ≡ o
unfolding next_number_at
next_over letter text o b h = ap (λ g. g >>= number_at letter) (gap_over text b) ∙ h

none_step : (letter : List ℕ) (c : ℕ) (text : List ℕ) (b : Bool) → is_blank c ≡ b → number_at letter (unblanked (c ∷ text)) ≡ None → (cond b (Some (unblanked text)) None >>= number_at letter) ≡ None
none_step letter c text true e h = ap (number_at letter) (sym (unblanked_more c text e)) ∙ h
none_step letter c text false e h = refl

next_none : (letter text : List ℕ) → number_at letter (unblanked text) ≡ None → next_number_at letter text ≡ None
unfolding next_number_at gap_at
next_none letter [] h = refl
next_none letter (c ∷ text) h = none_step letter c text (is_blank c) refl h

-- Many numbers.

-- no word comes next
abbrev pub NoWord : List Part → Type 0
NoWord [] = Unit {0}
NoWord ((word bytes) ∷ more) = ⊥
NoWord ((mark bytes) ∷ more) = Unit {0}

pub free : (part : Part) (more : List Part) (text : List ℕ) → NoWord more → Apart part more text
free (mark bytes) more text h = tt
free (word bytes) [] text h = tt
free (word bytes) ((mark other) ∷ more) text h = tt
free (word bytes) ((word other) ∷ more) text h = absurd h

-- the parts that lay out numbers, and what is behind them
pub record LaysNumbers (letter : List ℕ) (ns : List ℕ) (more : List Part) (text : List ℕ) : Type 0 where
  pub parts : List Part
  pub are : AllZip (IsNumbered letter) parts ns
  pub apart : (part : Part) → Apart part (parts ++ more) text
  pub laid : Lays (parts ++ more) text

begins_apart : (part : Part) (bytes : List ℕ) (more : List Part) (text : List ℕ) → BeginsBlank text → Apart part (word bytes ∷ more) text
begins_apart (mark w) bytes more text h = tt
begins_apart (word w) bytes more text h = h

many_step : (letter : List ℕ) (m : ℕ) (text : List ℕ) (more : List Part) (o : Option (ℕ × List ℕ)) → next_number_at letter text ≡ o → NoWord more
    → ((t : List ℕ) → Lays more (many (next_number_at letter) m t).1 → LaysNumbers letter (many (next_number_at letter) m t).0 more t)
    → Lays more (option_map_or (λ x. onto x.0 (many (next_number_at letter) m x.1)) o ([], text)).1
    → LaysNumbers letter (option_map_or (λ x. onto x.0 (many (next_number_at letter) m x.1)) o ([], text)).0 more text
many_step letter m text more None e w f l = record { parts = []; are = tt; apart = λ p. free p more text w; laid = l }
many_step letter m text more (Some x) e w f l =
    let n = next_is letter text x.0 x.1 e in
    let b = f x.1 l in
    record {
      parts = word n.here.bytes ∷ b.parts;
      are = (n.here.is, b.are);
      apart = λ p. begins_apart p n.here.bytes (b.parts ++ more) text n.begins;
      laid = first_lays letter text x.0 x.1 (b.parts ++ more) n.here (b.apart (word n.here.bytes)) b.laid;
    }

many_lays : (letter : List ℕ) (m : ℕ) (text : List ℕ) (more : List Part) → NoWord more → Lays more (many (next_number_at letter) m text).1 → LaysNumbers letter (many (next_number_at letter) m text).0 more text
unfolding many
many_lays letter zero text more w l = record { parts = []; are = tt; apart = λ p. free p more text w; laid = l }
many_lays letter (suc m) text more w l = many_step letter m text more (next_number_at letter text) refl w (λ t k. many_lays letter m t more w k) l

every_lays : (letter text : List ℕ) (more : List Part) → NoWord more → Lays more (every (next_number_at letter) text).1 → LaysNumbers letter (every (next_number_at letter) text).0 more text
unfolding every
every_lays letter text more w l = many_lays letter (length text) text more w l

numbers_step : (letter text : List ℕ) (more : List Part) (o : Option (ℕ × List ℕ)) → number_at letter (unblanked text) ≡ o → NoWord more
    → Lays more (option_map_or (λ n. onto n.0 (every (next_number_at letter) n.1)) o ([], text)).1
    → (parts : List Part) × AllZip (IsNumbered letter) parts (option_map_or (λ n. onto n.0 (every (next_number_at letter) n.1)) o ([], text)).0 × Lays (parts ++ more) text
numbers_step letter text more None e w l = ([], tt, l)
numbers_step letter text more (Some x) e w l =
    let n = number_is letter (unblanked text) x.0 x.1 e in
    let b = every_lays letter x.1 more w l in
    (word n.bytes ∷ b.parts, (n.is, b.are), first_lays letter text x.0 x.1 (b.parts ++ more) n (b.apart (word n.bytes)) b.laid)

-- numbers that are read are laid out
pub numbers_lays : (letter text : List ℕ) (more : List Part) → NoWord more → Lays more (numbers_at letter text).1
    → (parts : List Part) × AllZip (IsNumbered letter) parts (numbers_at letter text).0 × Lays (parts ++ more) text
unfolding numbers_at
numbers_lays letter text more w l = numbers_step letter text more (number_at letter (unblanked text)) refl w l

-- numbers of this letter end before these parts
abbrev pub Ends : ℕ → List Part → Type 0
Ends c [] = Unit {0}
Ends c ((word bytes) ∷ more) = ⊥
Ends c ((mark []) ∷ more) = ⊥
Ends c ((mark (d ∷ bytes)) ∷ more) = ((c == d) ≡ false) × (is_ascii_digit d ≡ false) × (is_blank d ≡ false)

ends_halt : (c : ℕ) (more : List Part) → Ends c more → Halts is_ascii_digit more
ends_halt c [] h = tt
ends_halt c ((word bytes) ∷ more) h = tt
ends_halt c ((mark []) ∷ more) h = h
ends_halt c ((mark (d ∷ bytes)) ∷ more) h = h.1

-- so do numbers before others of the letter
go_on_halts : (c : ℕ) (parts : List Part) (ns : List ℕ) (more : List Part) → AllZip (IsNumbered (c ∷ [])) parts ns → Ends c more → Halts is_ascii_digit (parts ++ more)
go_on_halts c [] ns more h e = ends_halt c more e
go_on_halts c ((word bytes) ∷ parts) ns more h e = tt
go_on_halts c ((mark bytes) ∷ parts) [] more h e = absurd h
go_on_halts c ((mark bytes) ∷ parts) (n ∷ ns) more h e = absurd (let f : mark bytes ≡ word (c ∷ h.0.0) = h.0.3 in cc)

no_number : (c : ℕ) (t : List ℕ) → after (c ∷ []) t ≡ None → number_at (c ∷ []) t ≡ None
unfolding number_at
no_number c t h = ap (λ o. o >>= λ a. decimal_at a >>= λ n. Some (min n.0 4294967295, n.1)) h

after_nothing : (c : ℕ) → after (c ∷ []) [] ≡ None
unfolding after
after_nothing c = refl

after_other : (c d : ℕ) (t : List ℕ) → (c == d) ≡ false → after (c ∷ []) (d ∷ t) ≡ None
unfolding after
after_other c d t h = ap (λ b. cond b (Some t) None) h

no_more : (c : ℕ) (more : List Part) (text : List ℕ) → Ends c more → Lays more text → number_at (c ∷ []) (unblanked text) ≡ None
no_more c [] text e l = ap (number_at (c ∷ [])) (blank_empty text l) ∙ no_number c [] (after_nothing c)
no_more c ((word bytes) ∷ more) text e l = absurd e
no_more c ((mark []) ∷ more) text e l = absurd e
no_more c ((mark (d ∷ bytes)) ∷ more) text e l =
    let front : unblanked text ≡ (d ∷ bytes) ++ l.1 = ap unblanked l.2 ∙ unblanked_over l.0 ((d ∷ bytes) ++ l.1) l.3 (letter_front d bytes l.1 e.2) in
    ap (number_at (c ∷ [])) front ∙ no_number c ((d ∷ bytes) ++ l.1) (after_other c d (bytes ++ l.1) e.0)

pub begins_of : (c : ℕ) (w : List ℕ) (part : Part) (n : ℕ) (more : List Part) (text : List ℕ) → IsNumbered (c ∷ []) part n → Apart (word w) (part ∷ more) text → BeginsBlank text
begins_of c w part n more text h a = subst (λ p. Apart (word w) (p ∷ more) text) h.3 a

every_reads : (c : ℕ) (w : List ℕ) (parts : List Part) (ns : List ℕ) (more : List Part) (text : List ℕ) → is_blank c ≡ false → AllZip (IsNumbered (c ∷ [])) parts ns → Ends c more
    → Apart (word w) (parts ++ more) text → Lays (parts ++ more) text → (r : List ℕ) × (every (next_number_at (c ∷ [])) text ≡ (ns, r)) × Lays more r
every_reads c w [] [] more text s h e a l = (text, every_none (next_number_at (c ∷ [])) text (next_none (c ∷ []) text (no_more c more text e l)), l)
every_reads c w [] (n ∷ ns) more text s h e a l = absurd h
every_reads c w (p ∷ ps) [] more text s h e a l = absurd h
every_reads c w (p ∷ ps) (n ∷ ns) more text s h e a l =
    let f = first_reads c p n (ps ++ more) text s h.0 (go_on_halts c ps ns more h.1 e) l in
    let next = next_over (c ∷ []) text (Some (n, f.rest)) (begins_of c w p n (ps ++ more) text h.0 a) f.is in
    let b = every_reads c (c ∷ h.0.0) ps ns more f.rest s h.1 e (subst (λ p. Apart p (ps ++ more) f.rest) h.0.3 f.apart) f.laid in
    (b.0, every_some (next_number_at (c ∷ [])) (next_number_shrinks (c ∷ [])) text n f.rest next ∙ ap (onto n) b.1, b.2)

-- numbers that are laid out are read
pub numbers_reads : (c : ℕ) (parts : List Part) (ns : List ℕ) (more : List Part) (text : List ℕ) → is_blank c ≡ false → AllZip (IsNumbered (c ∷ [])) parts ns → Ends c more
    → Lays (parts ++ more) text → (r : List ℕ) × (numbers_at (c ∷ []) text ≡ (ns, r)) × Lays more r
unfolding numbers_at
numbers_reads c [] [] more text s h e l = (text, ap (λ o. option_map_or (λ n. onto n.0 (every (next_number_at (c ∷ [])) n.1)) o ([], text)) (no_more c more text e l), l)
numbers_reads c [] (n ∷ ns) more text s h e l = absurd h
numbers_reads c (p ∷ ps) [] more text s h e l = absurd h
numbers_reads c (p ∷ ps) (n ∷ ns) more text s h e l =
    let f = first_reads c p n (ps ++ more) text s h.0 (go_on_halts c ps ns more h.1 e) l in
    let b = every_reads c (c ∷ h.0.0) ps ns more f.rest s h.1 e (subst (λ p. Apart p (ps ++ more) f.rest) h.0.3 f.apart) f.laid in
    (b.0, ap (λ o. option_map_or (λ n. onto n.0 (every (next_number_at (c ∷ [])) n.1)) o ([], text)) f.is ∙ ap (onto n) b.1, b.2)
