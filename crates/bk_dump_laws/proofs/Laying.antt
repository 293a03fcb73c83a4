-- Lines laid out by parts: what the readers of marks, words and names read at their front.
use Rattle.std.proofs.Common.{◌≡◌, ℕ, suc, ◌+◌, ◌<◌, List, [], ◌∷◌, ◌++◌, length, take, drop, ap, ◌∙◌, sym, refl, subst, arith, append-nil, Bool, true, false, cond, Option, Some, None}
use Rattle.std.specs.Prelude.{◌==◌}
use Rattle.std.specs.List.{prefix_len, AllByRecursion}
use Rattle.std.specs.Str.{is_utf8}
use Rattle.std.proofs.lemmas.Bool.Decides.{nat_tests}
use Rattle.std.proofs.lemmas.List.{drop_at, take_at, take-append-drop}
use Rattle.std.proofs.lemmas.List.Folds.{length-prefix_len}
use Rattle.bk_text.specs.Tokens.{is_blank}
use Rattle.bk_dump.specs.Front.{unblanked, after, mark_at, run_at, front_at, is_done}
use Rattle.bk_dump.specs.Words.{is_name_byte, is_plain_byte, as_utf8, utf8_at, name_at, plain_at, is_word_byte, word_at}
use Rattle.bk_dump.specs.Parts.{Part, word, mark, AreBlanks, BeginsBlank, Apart, Lays, IsNameOf, IsName, IsPlainName}
use Rattle.bk_dump.proofs.Runs.{front_passes, front_append}
use Rattle.bk_dump_laws.proofs.Again.{Stops, after_again, utf8_again}
use Rattle.bk_dump.proofs.Shrinking.{bind_some, if_true, unless_true}

pub some_is : {A : Type 0} (x y : A) → Some x ≡ Some y → x ≡ y
some_is x y h = cc

-- Runs.

-- a run that ends at once, or goes on
run_step : (p : ℕ → Bool) (c : ℕ) (text : List ℕ) (b : Bool) → p c ≡ b → prefix_len p (drop (prefix_len p text) text) ≡ 0 → prefix_len p (drop (cond b (1 + prefix_len p text) 0) (c ∷ text)) ≡ 0
run_step p c text true e h = ap (λ n. prefix_len p (drop n (c ∷ text))) (let q : 1 + prefix_len p text ≡ suc (prefix_len p text) = omega arith in q) ∙ h
run_step p c text false e h = ap (λ b. cond b (1 + prefix_len p text) 0) e

pub run_stops : (p : ℕ → Bool) (text : List ℕ) → Stops p (drop (prefix_len p text) text)
run_stops p [] = refl
run_stops p (c ∷ text) = run_step p c text (p c) refl (run_stops p text)

first_stops : (p : ℕ → Bool) (c n : ℕ) → p c ≡ false → cond (p c) (1 + n) 0 ≡ 0
first_stops p c n h = ap (λ b. cond b (1 + n) 0) h

pub stops_at : (p : ℕ → Bool) (c : ℕ) (text : List ℕ) → p c ≡ false → Stops p (c ∷ text)
stops_at p c text h = first_stops p c (prefix_len p text) h

stop_step : (c n : ℕ) (b : Bool) → cond b (1 + n) 0 ≡ 0 → b ≡ false
stop_step c n true h = absurd (omega arith)
stop_step c n false h = refl

pub stop_fails : (p : ℕ → Bool) (c : ℕ) (text : List ℕ) → Stops p (c ∷ text) → p c ≡ false
stop_fails p c text h = stop_step c (prefix_len p text) (p c) h

-- Blanks.

pub unblanked_gap : (text : List ℕ) → (gap : List ℕ) × (text ≡ gap ++ unblanked text) × AreBlanks gap
unfolding unblanked
unblanked_gap text = (take (prefix_len is_blank text) text, sym (take-append-drop (prefix_len is_blank text) text), front_passes is_blank text)

pub unblanked_stops : (text : List ℕ) → Stops is_blank (unblanked text)
unfolding unblanked
unblanked_stops text = run_stops is_blank text

pub unblanked_over : (gap rest : List ℕ) → AreBlanks gap → Stops is_blank rest → unblanked (gap ++ rest) ≡ rest
unfolding unblanked
unblanked_over gap rest h s = ap (λ n. drop n (gap ++ rest)) (front_append is_blank gap rest h s) ∙ drop_at gap rest (length gap) refl

length_zero : (xs : List ℕ) → length xs ≡ 0 → xs ≡ []
length_zero [] h = refl
length_zero (x ∷ xs) h = absurd (omega arith)

zero_test : (n : ℕ) → (n == 0) ≡ true → n ≡ 0
zero_test n h = grind (arith, nat_tests)

test_zero : (n : ℕ) → n ≡ 0 → (n == 0) ≡ true
test_zero n h = grind (arith, nat_tests)

-- nothing is left exactly where only blanks are
pub done_blanks : (text : List ℕ) → is_done text ≡ true → AreBlanks text
done_blanks text h =
    let g = unblanked_gap text in
    let none : unblanked text ≡ [] = length_zero (unblanked text) (zero_test (length (unblanked text)) h) in
    subst AreBlanks (sym (g.1 ∙ ap (λ r. g.0 ++ r) none ∙ append-nil g.0)) g.2

pub blanks_done : (text : List ℕ) → AreBlanks text → is_done text ≡ true
blanks_done text h =
    let e : unblanked text ≡ [] = ap unblanked (sym (append-nil text)) ∙ unblanked_over text [] h refl in
    test_zero (length (unblanked text)) (ap length e)

-- Marks.

pub after_is : (m text r : List ℕ) → after m text ≡ Some r → text ≡ m ++ r
unfolding after
after_is [] text r h = some_is text r h
after_is (c ∷ m) [] r h = absurd (cc)
after_is (c ∷ m) (d ∷ text) r h =
    let q = if_true (c == d) (after m text) r h in
    let same : c ≡ d = grind (arith, nat_tests, q.0) in
    ap (λ x. x ∷ text) (sym same) ∙ ap (λ t. c ∷ t) (after_is m text r q.1)

pub mark_gap : (m text r : List ℕ) → mark_at m text ≡ Some r → (gap : List ℕ) × (text ≡ gap ++ (m ++ r)) × AreBlanks gap
unfolding mark_at
mark_gap m text r h = let g = unblanked_gap text in (g.0, g.1 ∙ ap (λ t. g.0 ++ t) (after_is m (unblanked text) r h), g.2)

pub mark_over : (c : ℕ) (m gap r : List ℕ) → is_blank c ≡ false → AreBlanks gap → mark_at (c ∷ m) (gap ++ ((c ∷ m) ++ r)) ≡ Some r
unfolding mark_at
mark_over c m gap r s h = ap (after (c ∷ m)) (unblanked_over gap ((c ∷ m) ++ r) h (stops_at is_blank c (m ++ r) s)) ∙ after_again (c ∷ m) r

-- a mark is read, and what is behind it is laid out by the other parts
pub mark_reads : (c : ℕ) (m : List ℕ) (more : List Part) (text : List ℕ) → is_blank c ≡ false → Lays (mark (c ∷ m) ∷ more) text → (r : List ℕ) × (mark_at (c ∷ m) text ≡ Some r) × Lays more r
mark_reads c m more text s h = (h.1, ap (mark_at (c ∷ m)) h.2 ∙ mark_over c m h.0 h.1 s h.3, h.5)

pub mark_lays : (m : List ℕ) (more : List Part) (text r : List ℕ) → mark_at m text ≡ Some r → Lays more r → Lays (mark m ∷ more) text
mark_lays m more text r h l = let g = mark_gap m text r h in (g.0, r, g.1, g.2, tt, l)

-- a mark at the front of a text
pub mark_front : (c : ℕ) (m : List ℕ) (more : List Part) (text : List ℕ) → is_blank c ≡ false → (l : Lays (mark (c ∷ m) ∷ more) text) → unblanked text ≡ (c ∷ m) ++ l.1
mark_front c m more text s l = ap unblanked l.2 ∙ unblanked_over l.0 ((c ∷ m) ++ l.1) l.3 (stops_at is_blank c (m ++ l.1) s)

other_front : (d : ℕ) (n : List ℕ) (c : ℕ) (text : List ℕ) → (d == c) ≡ false → after (d ∷ n) (c ∷ text) ≡ None
unfolding after
other_front d n c text h = ap (λ b. cond b (after n text) None) h

pub other_mark : (d : ℕ) (n : List ℕ) (c : ℕ) (m : List ℕ) (more : List Part) (text : List ℕ) → (d == c) ≡ false → is_blank c ≡ false → Lays (mark (c ∷ m) ∷ more) text → mark_at (d ∷ n) text ≡ None
unfolding mark_at
other_mark d n c m more text e s l = ap (after (d ∷ n)) (mark_front c m more text s l) ∙ other_front d n c (m ++ l.1) e

not_empty : (n : ℕ) → (suc n == 0) ≡ false
not_empty n = grind (arith, nat_tests)

pub mark_not_done : (c : ℕ) (m : List ℕ) (more : List Part) (text : List ℕ) → is_blank c ≡ false → Lays (mark (c ∷ m) ∷ more) text → is_done text ≡ false
mark_not_done c m more text s l = ap (λ t. length t == 0) (mark_front c m more text s l) ∙ not_empty (length (m ++ l.1))

-- no mark is read where only blanks are
pub blank_empty : (text : List ℕ) → AreBlanks text → unblanked text ≡ []
blank_empty text h = ap unblanked (sym (append-nil text)) ∙ unblanked_over text [] h refl

pub blank_unmarked : (d : ℕ) (n text : List ℕ) → AreBlanks text → mark_at (d ∷ n) text ≡ None
unfolding mark_at after
blank_unmarked d n text h = ap (after (d ∷ n)) (blank_empty text h)

-- What stands behind a word.

-- the parts do not go on with a byte of the test
abbrev pub Halts : (ℕ → Bool) → List Part → Type 0
Halts p [] = Unit {0}
Halts p ((word bytes) ∷ more) = Unit {0}
Halts p ((mark []) ∷ more) = ⊥
Halts p ((mark (c ∷ bytes)) ∷ more) = p c ≡ false

-- the test fails on blanks
pub record IsSolid (p : ℕ → Bool) : Type 0 where
  pub by : (c : ℕ) → is_blank c ≡ true → p c ≡ false

blanks_stop : (p : ℕ → Bool) (text : List ℕ) → IsSolid p → AreBlanks text → Stops p text
blanks_stop p [] s h = refl
blanks_stop p (c ∷ text) s h = stops_at p c text (s.by c h.0)

blank_stops : (p : ℕ → Bool) (text : List ℕ) → IsSolid p → BeginsBlank text → Stops p text
blank_stops p [] s h = absurd h
blank_stops p (c ∷ text) s h = stops_at p c text (s.by c h)

mark_stops : (p : ℕ → Bool) (c : ℕ) (gap bytes : List ℕ) → IsSolid p → AreBlanks gap → p c ≡ false → Stops p (gap ++ (c ∷ bytes))
mark_stops p c [] bytes s h e = stops_at p c bytes e
mark_stops p c (d ∷ gap) bytes s h e = stops_at p d (gap ++ (c ∷ bytes)) (s.by d h.0)

pub behind_word : (p : ℕ → Bool) (w : List ℕ) (more : List Part) (r : List ℕ) → IsSolid p → Apart (word w) more r → Lays more r → Halts p more → Stops p r
behind_word p w [] r s a l h = blanks_stop p r s l
behind_word p w ((word v) ∷ more) r s a l h = blank_stops p r s a
behind_word p w ((mark []) ∷ more) r s a l h = absurd h
behind_word p w ((mark (c ∷ m)) ∷ more) r s a l h = subst (Stops p) (sym l.2) (mark_stops p c l.0 (m ++ l.1) s l.3 h)

gap_begins : (p : ℕ → Bool) (c : ℕ) (gap bytes : List ℕ) → AreBlanks gap → p c ≡ true → Stops p (gap ++ (c ∷ bytes)) → BeginsBlank (gap ++ (c ∷ bytes))
gap_begins p c [] bytes h e s = absurd (let f : p c ≡ false = stop_fails p c bytes s in cc)
gap_begins p c (d ∷ gap) bytes h e s = h.0

-- a word whose run ended, before another word that begins with a byte of the run
pub apart_of : (p : ℕ → Bool) (v w : List ℕ) (c : ℕ) (o : List ℕ) (more : List Part) (r : List ℕ) → Stops p r → v ≡ c ∷ o → p c ≡ true → Lays (word v ∷ more) r → Apart (word w) (word v ∷ more) r
apart_of p v w c o more r s e f l =
    let is : r ≡ l.0 ++ (c ∷ (o ++ l.1)) = l.2 ∙ ap (λ v. l.0 ++ (v ++ l.1)) e in
    subst BeginsBlank (sym is) (gap_begins p c l.0 (o ++ l.1) l.3 f (subst (Stops p) is s))

-- Names.

pub names_solid : IsSolid is_name_byte
unfolding is_name_byte
names_solid = record { by = λ c h. grind (arith, nat_tests) }

pub plains_solid : IsSolid is_plain_byte
unfolding is_plain_byte is_name_byte
plains_solid = record { by = λ c h. grind (arith, nat_tests) }

not_zero : (n : ℕ) → (n == 0) ≡ false → 0 < n
not_zero n h = grind (arith, nat_tests)

-- what a name is cut to
utf8_is : (p : ℕ → Bool) (text n r : List ℕ) → utf8_at (prefix_len p text) text ≡ Some (n, r) → (text ≡ n ++ r) × IsNameOf p n × Stops p r
unfolding utf8_at
utf8_is p text n r h =
    let k = prefix_len p text in
    let f = bind_some (front_at k text) _ (n, r) h in
    let t = bind_some (as_utf8 f.0.0) _ (n, r) f.2 in
    let q = unless_true (k == 0) (Some (take k text, drop k text)) f.0 f.1 in
    let u = if_true (is_utf8 f.0.0) (Some f.0.0) t.0 t.1 in
    let front : (take k text, drop k text) ≡ f.0 = some_is _ f.0 q.1 in
    let same : (t.0, f.0.1) ≡ (n, r) = some_is _ (n, r) t.2 in
    let name : take k text ≡ n = ap (λ x. x.0) front ∙ some_is f.0.0 t.0 u.1 ∙ ap (λ x. x.0) same in
    let rest : drop k text ≡ r = ap (λ x. x.1) front ∙ ap (λ x. x.1) same in
    let whole : text ≡ n ++ r = sym (take-append-drop k text) ∙ ap (λ t. t ++ drop k text) name ∙ ap (λ t. n ++ t) rest in
    let bytes : AllByRecursion (λ c. p c ≡ true) n = subst (AllByRecursion (λ c. p c ≡ true)) name (front_passes p text) in
    let some : 0 < length n = omega (arith, not_zero k q.0, ap length name, length-prefix_len p text) in
    (whole, record { some = some; bytes = bytes; utf8 = ap is_utf8 (sym name ∙ ap (λ x. x.0) front) ∙ u.0 }, subst (Stops p) rest (run_stops p text))

-- a name's first byte is no blank
not_blank : (p : ℕ → Bool) (c : ℕ) (b : Bool) → IsSolid p → p c ≡ true → is_blank c ≡ b → is_blank c ≡ false
not_blank p c true s h e = absurd (let f : p c ≡ false = s.by c e in cc)
not_blank p c false s h e = e

pub solid_begins : (p : ℕ → Bool) (w r : List ℕ) → IsSolid p → 0 < length w → AllByRecursion (λ c. p c ≡ true) w → Stops is_blank (w ++ r)
solid_begins p [] r s h g = absurd (omega arith)
solid_begins p (c ∷ w) r s h g = stops_at is_blank c (w ++ r) (not_blank p c (is_blank c) s g.0 refl)

-- what is read as a name, with what lays it out
pub record Named (p : ℕ → Bool) (text n r : List ℕ) : Type 0 where
  pub name : IsNameOf p n
  pub stops : Stops p r
  pub lays : (more : List Part) → Apart (word n) more r → Lays more r → Lays (word n ∷ more) text

named : (p : ℕ → Bool) (text n r : List ℕ) → utf8_at (prefix_len p (unblanked text)) (unblanked text) ≡ Some (n, r) → Named p text n r
named p text n r h =
    let u = utf8_is p (unblanked text) n r h in
    let g = unblanked_gap text in
    record { name = u.1; stops = u.2; lays = λ more a l. (g.0, r, g.1 ∙ ap (λ t. g.0 ++ t) u.0, g.2, a, l) }

pub name_lays : (text n r : List ℕ) → name_at text ≡ Some (n, r) → Named is_name_byte text n r
unfolding name_at
name_lays text n r h = named is_name_byte text n r h

pub plain_lays : (text n r : List ℕ) → plain_at text ≡ Some (n, r) → Named is_plain_byte text n r
unfolding plain_at
plain_lays text n r h = named is_plain_byte text n r h

-- a word is read, and what is behind it is laid out by the other parts
pub record Reads {A : Type 0} (read : Option (A × List ℕ)) (x : A) (w : List ℕ) (more : List Part) : Type 0 where
  pub rest : List ℕ
  pub is : read ≡ Some (x, rest)
  pub apart : Apart (word w) more rest
  pub laid : Lays more rest

reads_name : (p : ℕ → Bool) (n : List ℕ) (more : List Part) (text : List ℕ) → IsSolid p → IsNameOf p n → Halts p more → Lays (word n ∷ more) text
    → Reads (utf8_at (prefix_len p (unblanked text)) (unblanked text)) n n more
reads_name p n more text s h g l =
    let r = l.1 in
    let front : unblanked text ≡ n ++ r = ap unblanked l.2 ∙ unblanked_over l.0 (n ++ r) l.3 (solid_begins p n r s h.some h.bytes) in
    record {
      rest = r;
      is = ap (λ t. utf8_at (prefix_len p t) t) front ∙ utf8_again p n r h (behind_word p n more r s l.4 l.5 g);
      apart = l.4;
      laid = l.5;
    }

pub name_reads : (n : List ℕ) (more : List Part) (text : List ℕ) → IsName n → Halts is_name_byte more → Lays (word n ∷ more) text → Reads (name_at text) n n more
unfolding name_at
name_reads n more text h g l = reads_name is_name_byte n more text names_solid h g l

pub plain_reads : (n : List ℕ) (more : List Part) (text : List ℕ) → IsPlainName n → Halts is_plain_byte more → Lays (word n ∷ more) text → Reads (plain_at text) n n more
unfolding plain_at
plain_reads n more text h g l = reads_name is_plain_byte n more text plains_solid h g l

-- Words of letters and digits.

pub words_solid : IsSolid is_word_byte
unfolding is_word_byte
words_solid = record { by = λ c h. grind (arith, nat_tests) }

-- what is read as a word, with what lays it out
pub record Worded (text w r : List ℕ) : Type 0 where
  pub bytes : AllByRecursion (λ c. is_word_byte c ≡ true) w
  pub stops : Stops is_word_byte r
  pub lays : (more : List Part) → Apart (word w) more r → Lays more r → Lays (word w ∷ more) text

pub word_lays : (text : List ℕ) → Worded text (word_at text).0 (word_at text).1
unfolding word_at
word_lays text =
    let g = unblanked_gap text in
    let n = prefix_len is_word_byte (unblanked text) in
    record {
      bytes = front_passes is_word_byte (unblanked text);
      stops = run_stops is_word_byte (unblanked text);
      lays = λ more a l. (g.0, drop n (unblanked text), g.1 ∙ ap (λ t. g.0 ++ t) (sym (take-append-drop n (unblanked text))), g.2, a, l);
    }

-- a word is read, and what is behind it is laid out by the other parts
pub record ReadsWord (text w : List ℕ) (more : List Part) : Type 0 where
  pub rest : List ℕ
  pub is : word_at text ≡ (w, rest)
  pub apart : Apart (word w) more rest
  pub laid : Lays more rest

pub word_reads : (w : List ℕ) (more : List Part) (text : List ℕ) → 0 < length w → AllByRecursion (λ c. is_word_byte c ≡ true) w → Halts is_word_byte more → Lays (word w ∷ more) text → ReadsWord text w more
unfolding word_at
word_reads w more text h b g l =
    let r = l.1 in
    let front : unblanked text ≡ w ++ r = ap unblanked l.2 ∙ unblanked_over l.0 (w ++ r) l.3 (solid_begins is_word_byte w r words_solid h b) in
    record {
      rest = r;
      is = ap (run_at is_word_byte) front
          ∙ ap (λ k. (take k (w ++ r), drop k (w ++ r))) (front_append is_word_byte w r b (behind_word is_word_byte w more r words_solid l.4 l.5 g))
          ∙ ap (λ t. (t, drop (length w) (w ++ r))) (take_at w r (length w) refl)
          ∙ ap (λ t. (w, t)) (drop_at w r (length w) refl);
      apart = l.4;
      laid = l.5;
    }

-- Words in front of a text.

pub word_front : (p : ℕ → Bool) (w : List ℕ) (more : List Part) (text : List ℕ) → IsSolid p → 0 < length w → AllByRecursion (λ c. p c ≡ true) w → (l : Lays (word w ∷ more) text) → unblanked text ≡ w ++ l.1
word_front p w more text s h b l = ap unblanked l.2 ∙ unblanked_over l.0 (w ++ l.1) l.3 (solid_begins p w l.1 s h b)

differs : (p : ℕ → Bool) (d c : ℕ) (b : Bool) → (d == c) ≡ b → p d ≡ false → p c ≡ true → b ≡ false
differs p d c true e f g = absurd (let same : d ≡ c = grind (arith, nat_tests) in let h : p c ≡ false = ap p (sym same) ∙ f in cc)
differs p d c false e f g = refl

pub other_begin : (p : ℕ → Bool) (d : ℕ) (m w r : List ℕ) → p d ≡ false → 0 < length w → AllByRecursion (λ c. p c ≡ true) w → after (d ∷ m) (w ++ r) ≡ None
other_begin p d m [] r f h b = absurd (omega arith)
other_begin p d m (c ∷ w) r f h b = other_front d m c (w ++ r) (differs p d c (d == c) refl f b.0)

-- a mark that does not begin as a word is not read where one stands
pub other_word : (p : ℕ → Bool) (d : ℕ) (m w : List ℕ) (more : List Part) (text : List ℕ) → IsSolid p → p d ≡ false → 0 < length w → AllByRecursion (λ c. p c ≡ true) w → Lays (word w ∷ more) text → mark_at (d ∷ m) text ≡ None
unfolding mark_at
other_word p d m w more text s f h b l = ap (after (d ∷ m)) (word_front p w more text s h b l) ∙ other_begin p d m w l.1 f h b

long : (w r : List ℕ) → 0 < length w → (length (w ++ r) == 0) ≡ false
long [] r h = absurd (omega arith)
long (c ∷ w) r h = not_empty (length (w ++ r))

pub word_not_done : (p : ℕ → Bool) (w : List ℕ) (more : List Part) (text : List ℕ) → IsSolid p → 0 < length w → AllByRecursion (λ c. p c ≡ true) w → Lays (word w ∷ more) text → is_done text ≡ false
word_not_done p w more text s h b l = ap (λ t. length t == 0) (word_front p w more text s h b l) ∙ long w l.1 h

-- a word is read as a mark is
pub word_marked : (c : ℕ) (w : List ℕ) (more : List Part) (text : List ℕ) → is_blank c ≡ false → Lays (word (c ∷ w) ∷ more) text → (r : List ℕ) × (mark_at (c ∷ w) text ≡ Some r) × Apart (word (c ∷ w)) more r × Lays more r
word_marked c w more text s h = (h.1, ap (mark_at (c ∷ w)) h.2 ∙ mark_over c w h.0 h.1 s h.3, h.4, h.5)

-- a word whose run ended, before a name of the same bytes
pub name_apart : (p : ℕ → Bool) (w v : List ℕ) (more : List Part) (r : List ℕ) → 0 < length v → AllByRecursion (λ c. p c ≡ true) v → Stops p r → Lays (word v ∷ more) r → Apart (word w) (word v ∷ more) r
name_apart p w [] more r h b s l = absurd (omega arith)
name_apart p w (c ∷ o) more r h b s l = apart_of p (c ∷ o) w c o more r s refl b.0 l

-- a mark is not read where a word stands that begins otherwise
pub word_unmarked : (d c : ℕ) (w : List ℕ) (more : List Part) (text : List ℕ) → (d == c) ≡ false → is_blank c ≡ false → Lays (word (c ∷ w) ∷ more) text → mark_at (d ∷ []) text ≡ None
unfolding mark_at
word_unmarked d c w more text e s l =
    ap (after (d ∷ [])) (ap unblanked l.2 ∙ unblanked_over l.0 ((c ∷ w) ++ l.1) l.3 (stops_at is_blank c (w ++ l.1) s)) ∙ other_front d [] c (w ++ l.1) e
