-- No line has two forms where both may stand.
use Rattle.std.proofs.Common.{◌≡◌, ◌≢◌, ℕ, suc, ◌+◌, ◌≤◌, List, [], ◌∷◌, ◌++◌, length, drop, ap, ◌∙◌, sym, refl, subst, arith, true, false, cond, ◌⊎◌, inl, inr, ⊎_elim}
use Rattle.std.specs.Prelude.{codes, ◌==◌}
use Rattle.std.specs.Char.{is_ascii_digit}
use Rattle.std.specs.List.{AllByRecursion, AllZip, prefix_len}
use Rattle.std.specs.Str.Parse.{AllDigits}
use Rattle.std.proofs.lemmas.Bool.Decides.{nat_tests}
use Rattle.bk_text.specs.Tokens.{is_blank}
use Rattle.bk_func.specs.declared.parts.Kind.{Kind}
use Rattle.bk_func.specs.declared.parts.Kind.TheVariants.{Plain, If, First, Ret, Exit}
use Rattle.bk_ops.specs.declared.types.Ty.{Ty}
use Rattle.bk_ops.specs.declared.types.Ty.TheVariants.{Bool as Truth, Int8, Uint8, Int16, Uint16, Int32, Uint32, Int64, Uint64, Int, Uint, Uintptr, Ptr, Mem, Void, Tuple}
use Rattle.bk_dump.specs.Front.{unblanked}
use Rattle.bk_dump.specs.Words.{is_name_byte, is_plain_byte}
use Rattle.bk_dump.specs.Print.{type_name}
use Rattle.bk_dump.specs.Trees.{ValueTree, LabelTree, EndTree, VarTree, ParameterTree, HeaderTree}
use Rattle.bk_dump.specs.Blocks.{kind_word}
use Rattle.bk_dump.specs.Parts.{Part, word, mark, bytes_of, AreBlanks, BeginsBlank, Lays, Spells, IsPlainName, IsDecimal, IsNumbered, IsBackArrow, behind_commas, listed}
use Rattle.bk_dump_laws.specs.Lines.{IsVarLine, IsFuncLine, IsBlockLine, IsValueLine, IsEndLine, AreBlocks, IsPlaceType, IsPlace, IsParameter, AreResults}
use Rattle.bk_dump.proofs.Numbers.{digit_is}
use Rattle.bk_dump.proofs.Runs.{all_pass, both_hold}
use Rattle.bk_dump_laws.proofs.Again.{Stops, tests_of_digits}
use Rattle.bk_dump_laws.proofs.Laying.{unblanked_over, stops_at, blank_empty, mark_front, word_front, names_solid, plains_solid}
use Rattle.bk_dump_laws.proofs.LaidNumbers.{digits_solid}

-- Forms that begin with other bytes.

first_is : (c : ℕ) (w : List ℕ) (more : List Part) (text : List ℕ) → is_blank c ≡ false → (l : Lays (word (c ∷ w) ∷ more) text) → unblanked text ≡ c ∷ (w ++ l.1)
first_is c w more text s l = ap unblanked l.2 ∙ unblanked_over l.0 ((c ∷ w) ++ l.1) l.3 (stops_at is_blank c (w ++ l.1) s)

heads : (c d : ℕ) (xs ys : List ℕ) → c ∷ xs ≡ d ∷ ys → c ≡ d
heads c d xs ys h = cc

unlike : (c d : ℕ) → c ≡ d → (c == d) ≡ false → ⊥
unlike c d h e = grind (arith, nat_tests)

differ : (c d : ℕ) (w v : List ℕ) (more rest : List Part) (text : List ℕ) → is_blank c ≡ false → is_blank d ≡ false → (c == d) ≡ false → Lays (word (c ∷ w) ∷ more) text → Lays (word (d ∷ v) ∷ rest) text → ⊥
differ c d w v more rest text s t e l k = unlike c d (heads c d (w ++ l.1) (v ++ k.1) (sym (first_is c w more text s l) ∙ first_is d v rest text t k)) e

-- what the word of a kind begins with
pub record Begun (k : Kind) : Type 0 where
  pub first : ℕ
  pub more : List ℕ
  pub is : kind_word k ≡ first ∷ more
  pub solid : is_blank first ≡ false
  pub other : (118 == first) ≡ false

begun : (k : Kind) → Begun k
unfolding kind_word
begun Plain = record { first = 80; more = codes "lain"; is = refl; solid = refl; other = refl }
begun If = record { first = 73; more = codes "f"; is = refl; solid = refl; other = refl }
begun First = record { first = 70; more = codes "irst"; is = refl; solid = refl; other = refl }
begun Ret = record { first = 82; more = codes "et"; is = refl; solid = refl; other = refl }
begun Exit = record { first = 69; more = codes "xit"; is = refl; solid = refl; other = refl }

numbered_first : (c : ℕ) (part : Part) (n : ℕ) (more : List Part) (text : List ℕ) → (i : IsNumbered (c ∷ []) part n) → Lays (part ∷ more) text → Lays (word (c ∷ i.0) ∷ more) text
numbered_first c part n more text i l = subst (λ p. Lays (p ∷ more) text) i.3 l

pub value_no_end : (line : List ℕ) (v : ValueTree) (e : EndTree) → Spells IsValueLine line v → Spells IsEndLine line e → ⊥
value_no_end line v e (ps, laid, s) (qs, led, (control, succs, groups, inside, spelled, has, leads, grouped, likely)) =
    let b = begun e.kind in
    let rest = s.behind_id ++ (mark (codes "=") ∷ (word s.name ∷ (mark (codes "<") ∷ (s.types ++ (mark (codes ">") ∷ (s.beside ++ (s.args ++ s.groups))))))) in
    let l = numbered_first 118 s.id v.id rest line s.numbered (subst (λ ps. Lays ps line) s.spelled laid) in
    let k : Lays (word (b.first ∷ b.more) ∷ (control ++ (succs ++ groups))) line = subst (λ w. Lays (word w ∷ (control ++ (succs ++ groups))) line) b.is (subst (λ ps. Lays ps line) spelled led) in
    differ 118 b.first s.numbered.0 b.more rest (control ++ (succs ++ groups)) line refl b.solid b.other l k

pub block_no_var : (line : List ℕ) (b : LabelTree) (v : VarTree) → Spells IsBlockLine line b → Spells IsVarLine line v → ⊥
block_no_var line b v (ps, laid, (label, behind, numbered, spelled, preds)) (qs, led, (size, rest, named, sized, shaped, hex)) =
    let l = numbered_first 98 label b.id (mark (codes ":") ∷ behind) line numbered (subst (λ ps. Lays ps line) spelled laid) in
    differ 98 118 numbered.0 (codes "ar") (mark (codes ":") ∷ behind) (word v.name ∷ (word size ∷ rest)) line refl refl refl l (subst (λ ps. Lays ps line) shaped led)

-- A line that opens a block has no `f`.

abbrev NoF : List ℕ → Type 0
NoF text = AllByRecursion (λ c. (c == 102) ≡ false) text

nof_append : (xs ys : List ℕ) → NoF xs → NoF ys → NoF (xs ++ ys)
nof_append [] ys h g = g
nof_append (x ∷ xs) ys h g = (h.0, nof_append xs ys h.1 g)

blank_step : (c : ℕ) → is_blank c ≡ true → (c == 102) ≡ false
blank_step c h = grind (arith, nat_tests)

blanks_nof : (gap : List ℕ) → AreBlanks gap → NoF gap
blanks_nof [] h = tt
blanks_nof (c ∷ gap) h = (blank_step c h.0, blanks_nof gap h.1)

digits_nof : (ds : List ℕ) → AllDigits 10 ds → NoF ds
digits_nof [] h = tt
digits_nof (d ∷ ds) h = ((let f = digit_is d h.0 in grind (arith, nat_tests)), digits_nof ds h.1)

abbrev PartsNoF : List Part → Type 0
PartsNoF parts = AllByRecursion (λ p. NoF (bytes_of p)) parts

laid_nof : (parts : List Part) (text : List ℕ) → PartsNoF parts → Lays parts text → NoF text
laid_nof [] text h l = blanks_nof text l
laid_nof (p ∷ ps) text h l = subst NoF (sym l.2) (nof_append l.0 (bytes_of p ++ l.1) (blanks_nof l.0 l.3) (nof_append (bytes_of p) l.1 h.0 (laid_nof ps l.1 h.1 l.5)))

number_nof : (part : Part) (n : ℕ) → IsNumbered (codes "b") part n → NoF (bytes_of part)
number_nof part n i = subst (λ p. NoF (bytes_of p)) (sym i.3) (refl, digits_nof i.0 i.2.digits)

numbers_nof : (parts : List Part) (ns : List ℕ) → AreBlocks parts ns → PartsNoF parts
numbers_nof [] ns h = tt
numbers_nof (p ∷ ps) [] h = absurd h
numbers_nof (p ∷ ps) (n ∷ ns) h = (number_nof p n h.0, numbers_nof ps ns h.1)

arrow_nof : (arrow : Part) → IsBackArrow arrow → NoF (bytes_of arrow)
arrow_nof arrow h = ⊎_elim (λ e. subst (λ p. NoF (bytes_of p)) (sym e) (refl, (refl, tt))) (λ e. subst (λ p. NoF (bytes_of p)) (sym e) (refl, (refl, (refl, tt)))) h

block_nof : (line : List ℕ) (b : LabelTree) → Spells IsBlockLine line b → NoF line
block_nof line b (ps, laid, (label, behind, numbered, spelled, preds)) =
    let rest : PartsNoF behind = ⊎_elim (λ e. subst PartsNoF (sym e.1) tt) (λ e. subst PartsNoF (sym e.5) (arrow_nof e.0 e.2, numbers_nof e.1 b.preds e.3)) preds in
    laid_nof (label ∷ (mark (codes ":") ∷ behind)) line (number_nof label b.id numbered, ((refl, tt), rest)) (subst (λ ps. Lays ps line) spelled laid)

f_there : (xs ys : List ℕ) → NoF (xs ++ (102 ∷ ys)) → ⊥
f_there [] ys h = absurd (let e : (102 == 102) ≡ false = h.0 in cc)
f_there (x ∷ xs) ys h = f_there xs ys h.1

behind_nof : (xs ys : List ℕ) → NoF (xs ++ ys) → NoF ys
behind_nof [] ys h = h
behind_nof (x ∷ xs) ys h = behind_nof xs ys h.1

pub block_no_func : (line : List ℕ) (b : LabelTree) (h : HeaderTree) → Spells IsBlockLine line b → Spells IsFuncLine line h → ⊥
block_no_func line b h block (qs, led, (each, behind, named, items, results, spelled)) =
    let rest = mark (codes "(") ∷ (listed each ++ (mark (codes ")") ∷ behind)) in
    let l : Lays (word h.name ∷ (word (codes "func") ∷ rest)) line = subst (λ ps. Lays ps line) spelled led in
    let clean = behind_nof h.name l.1 (behind_nof l.0 (h.name ++ l.1) (subst NoF l.2 (block_nof line b block))) in
    let k : Lays (word (codes "func") ∷ rest) l.1 = l.5 in
    f_there k.0 (codes "unc" ++ k.1) (subst NoF k.2 clean)

-- A line that declares a variable opens no function.

-- what is behind the bytes of names at the front
abbrev rest_of : List ℕ → List ℕ
rest_of text = drop (prefix_len is_name_byte text) text

rest_more : (c : ℕ) (text : List ℕ) → is_name_byte c ≡ true → rest_of (c ∷ text) ≡ rest_of text
rest_more c text h =
    ap (λ b. drop (cond b (1 + prefix_len is_name_byte text) 0) (c ∷ text)) h ∙ ap (λ n. drop n (c ∷ text)) (let q : 1 + prefix_len is_name_byte text ≡ suc (prefix_len is_name_byte text) = omega arith in q)

rest_stop : (text : List ℕ) → Stops is_name_byte text → rest_of text ≡ text
rest_stop text h = ap (λ k. drop k text) h

abbrev AreNames : List ℕ → Type 0
AreNames w = AllByRecursion (λ c. is_name_byte c ≡ true) w

rest_over : (w r : List ℕ) → AreNames w → rest_of (w ++ r) ≡ rest_of r
rest_over [] r h = refl
rest_over (c ∷ w) r h = rest_more c (w ++ r) h.0 ∙ rest_over w r h.1

rest_here : (w r : List ℕ) → AreNames w → Stops is_name_byte r → rest_of (w ++ r) ≡ r
rest_here w r h s = rest_over w r h ∙ rest_stop r s

blank_stop : (c : ℕ) (text : List ℕ) → is_blank c ≡ true → Stops is_name_byte (c ∷ text)
blank_stop c text h = stops_at is_name_byte c text (names_solid.by c h)

begins_stop : (text : List ℕ) → BeginsBlank text → Stops is_name_byte text
begins_stop [] h = absurd h
begins_stop (c ∷ text) h = blank_stop c text h

blanks_stop : (text : List ℕ) → AreBlanks text → Stops is_name_byte text
blanks_stop [] h = refl
blanks_stop (c ∷ text) h = blank_stop c text h.0

-- behind any gap the text begins with no digit, or there is nothing
abbrev NoDigit : List ℕ → Type 0
NoDigit text = (c : ℕ) (more : List ℕ) → unblanked text ≡ c ∷ more → is_ascii_digit c ≡ false

blanks_no_digit : (text : List ℕ) → AreBlanks text → NoDigit text
blanks_no_digit text h c more e = absurd (let n : c ∷ more ≡ [] = sym e ∙ blank_empty text h in cc)

front_no_digit : (d : ℕ) (w text : List ℕ) → unblanked text ≡ d ∷ w → is_ascii_digit d ≡ false → NoDigit text
front_no_digit d w text h g c more e = ap is_ascii_digit (heads c d more w (sym e ∙ h)) ∙ g

mark_no_digit : (d : ℕ) (m : List ℕ) (more : List Part) (text : List ℕ) → is_blank d ≡ false → is_ascii_digit d ≡ false → Lays (mark (d ∷ m) ∷ more) text → NoDigit text
mark_no_digit d m more text s g l = front_no_digit d (m ++ l.1) text (mark_front d m more text s l) g

-- a type's name begins with no digit
pub record BeginsType (name : List ℕ) : Type 0 where
  pub first : ℕ
  pub more : List ℕ
  pub is : name ≡ first ∷ more
  pub solid : is_blank first ≡ false
  pub letter : is_ascii_digit first ≡ false
  pub unequal : (first == 61) ≡ false

type_begins : (ty : Ty) → ty ≢ Tuple → BeginsType (type_name ty)
unfolding type_name
type_begins Truth h = record { first = 98; more = codes "ool"; is = refl; solid = refl; letter = refl; unequal = refl }
type_begins Int8 h = record { first = 105; more = codes "nt8"; is = refl; solid = refl; letter = refl; unequal = refl }
type_begins Uint8 h = record { first = 117; more = codes "int8"; is = refl; solid = refl; letter = refl; unequal = refl }
type_begins Int16 h = record { first = 105; more = codes "nt16"; is = refl; solid = refl; letter = refl; unequal = refl }
type_begins Uint16 h = record { first = 117; more = codes "int16"; is = refl; solid = refl; letter = refl; unequal = refl }
type_begins Int32 h = record { first = 105; more = codes "nt32"; is = refl; solid = refl; letter = refl; unequal = refl }
type_begins Uint32 h = record { first = 117; more = codes "int32"; is = refl; solid = refl; letter = refl; unequal = refl }
type_begins Int64 h = record { first = 105; more = codes "nt64"; is = refl; solid = refl; letter = refl; unequal = refl }
type_begins Uint64 h = record { first = 117; more = codes "int64"; is = refl; solid = refl; letter = refl; unequal = refl }
type_begins Int h = record { first = 105; more = codes "nt"; is = refl; solid = refl; letter = refl; unequal = refl }
type_begins Uint h = record { first = 117; more = codes "int"; is = refl; solid = refl; letter = refl; unequal = refl }
type_begins Uintptr h = record { first = 117; more = codes "intptr"; is = refl; solid = refl; letter = refl; unequal = refl }
type_begins Ptr h = record { first = 112; more = codes "tr"; is = refl; solid = refl; letter = refl; unequal = refl }
type_begins Mem h = record { first = 109; more = codes "em"; is = refl; solid = refl; letter = refl; unequal = refl }
type_begins Void h = record { first = 118; more = codes "oid"; is = refl; solid = refl; letter = refl; unequal = refl }
type_begins Tuple h = absurd (h refl)

place_begins : (name : List ℕ) (ty : Ty) → IsPlaceType name ty → BeginsType name
place_begins name ty h =
    ⊎_elim (λ e. subst BeginsType (sym e.0) (type_begins ty e.1.2))
    (λ e. ⊎_elim (λ p. subst BeginsType (sym p) (record { first = 117; more = codes "nsafe.Pointer"; is = refl; solid = refl; letter = refl; unequal = refl }))
    (λ p. subst BeginsType (sym p.1) (record { first = 42; more = p.0; is = refl; solid = refl; letter = refl; unequal = refl })) e.0) h.1

type_front : (name : List ℕ) (ty : Ty) (more : List Part) (text : List ℕ) (t : IsPlaceType name ty) → (l : Lays (word name ∷ more) text) → unblanked text ≡ (place_begins name ty t).first ∷ ((place_begins name ty t).more ++ l.1)
type_front name ty more text t l =
    let b = place_begins name ty t in
    word_front is_plain_byte name more text plains_solid t.0.some t.0.bytes l ∙ ap (λ n. n ++ l.1) b.is

type_no_digit : (name : List ℕ) (ty : Ty) (more : List Part) (text : List ℕ) → IsPlaceType name ty → Lays (word name ∷ more) text → NoDigit text
type_no_digit name ty more text t l = let b = place_begins name ty t in front_no_digit b.first (b.more ++ l.1) text (type_front name ty more text t l) b.letter

plain_named : (c : ℕ) → is_plain_byte c ≡ true → is_name_byte c ≡ true
unfolding is_plain_byte
plain_named c h = (both_hold (is_name_byte c) _ h).0

plains_named : (w : List ℕ) → AllByRecursion (λ c. is_plain_byte c ≡ true) w → AreNames w
plains_named [] h = tt
plains_named (c ∷ w) h = (plain_named c h.0, plains_named w h.1)

-- behind a gap the run of names ends at once; with no gap it goes on behind the part
gap_or : (P : List ℕ → Type 0) (gap w r text : List ℕ) → text ≡ gap ++ (w ++ r) → AreBlanks gap → AreNames w → P text → P (rest_of r) → P (rest_of text)
gap_or P [] w r text e h n p q = subst P (sym (ap rest_of e ∙ rest_over w r n)) q
gap_or P (g ∷ gap) w r text e h n p q = subst P (sym (ap rest_of e ∙ rest_stop ((g ∷ gap) ++ (w ++ r)) (blank_stop g (gap ++ (w ++ r)) h.0) ∙ sym e)) p

bracket_names : (c : ℕ) → is_name_byte c ≡ true → AreNames (c ∷ [])
bracket_names c h = (h, tt)

opening_named : is_name_byte 40 ≡ true
unfolding is_name_byte
opening_named = refl

closing_named : is_name_byte 41 ≡ true
unfolding is_name_byte
closing_named = refl

comma_stops : is_name_byte 44 ≡ false
unfolding is_name_byte
comma_stops = refl

equals_stops : is_name_byte 61 ≡ false
unfolding is_name_byte
equals_stops = refl

-- a mark that is no byte of names ends the run
mark_stop : (c : ℕ) (m gap r : List ℕ) → is_name_byte c ≡ false → AreBlanks gap → Stops is_name_byte (gap ++ ((c ∷ m) ++ r))
mark_stop c m [] r h b = stops_at is_name_byte c (m ++ r) h
mark_stop c m (g ∷ gap) r h b = blank_stop g (gap ++ ((c ∷ m) ++ r)) b.0

mark_rest : (c : ℕ) (m : List ℕ) (more : List Part) (text : List ℕ) → is_name_byte c ≡ false → Lays (mark (c ∷ m) ∷ more) text → rest_of text ≡ text
mark_rest c m more text h l = rest_stop text (subst (Stops is_name_byte) (sym l.2) (mark_stop c m l.0 l.1 h l.3))

-- behind the closing bracket of the parameters
few_no_digit : (each : List (List Part)) (rs : List Ty) (text : List ℕ) → AllZip IsPlace each rs → length rs ≤ 1 → Lays (listed each) text → NoDigit (rest_of text)
few_no_digit [] rs text z h l = subst NoDigit (sym (rest_stop text (blanks_stop text l))) (blanks_no_digit text l)
few_no_digit (e ∷ each) [] text z h l = absurd z
few_no_digit (e ∷ (d ∷ each)) (r ∷ []) text z h l = absurd z.1
few_no_digit (e ∷ each) (r ∷ (s ∷ rs)) text z h l = absurd (omega arith)
few_no_digit (e ∷ []) (r ∷ []) text z h l =
    let k : Lays (word z.0.0 ∷ []) text = subst (λ ps. Lays (ps ++ []) text) z.0.1 l in
    gap_or NoDigit k.0 z.0.0 k.1 text k.2 k.3 (plains_named z.0.0 z.0.2.0.bytes) (type_no_digit z.0.0 r [] text z.0.2 k)
    (subst NoDigit (sym (rest_stop k.1 (blanks_stop k.1 k.5))) (blanks_no_digit k.1 k.5))

many_no_digit : (each : List (List Part)) (rs : List Ty) (more : List Part) (text : List ℕ) → AllZip IsPlace each rs → 2 ≤ length rs → Lays (listed each ++ more) text → NoDigit (rest_of text)
many_no_digit [] [] more text z h l = absurd (omega arith)
many_no_digit [] (r ∷ rs) more text z h l = absurd z
many_no_digit (e ∷ each) [] more text z h l = absurd z
many_no_digit (e ∷ []) (r ∷ []) more text z h l = absurd (omega arith)
many_no_digit (e ∷ []) (r ∷ (s ∷ rs)) more text z h l = absurd z.1
many_no_digit (e ∷ (d ∷ each)) (r ∷ []) more text z h l = absurd (omega arith)
many_no_digit (e ∷ (d ∷ each)) (r ∷ (s ∷ rs)) more text z h l =
    let rest = (d ++ behind_commas each) ++ more in
    let k : Lays (word z.0.0 ∷ (mark (codes ",") ∷ rest)) text = subst (λ ps. Lays ((ps ++ (mark (codes ",") ∷ (d ++ behind_commas each))) ++ more) text) z.0.1 l in
    gap_or NoDigit k.0 z.0.0 k.1 text k.2 k.3 (plains_named z.0.0 z.0.2.0.bytes) (type_no_digit z.0.0 r (mark (codes ",") ∷ rest) text z.0.2 k)
    (subst NoDigit (sym (mark_rest 44 [] rest k.1 comma_stops k.5)) (mark_no_digit 44 [] rest k.1 refl refl k.5))

results_no_digit : (behind : List Part) (rs : List Ty) (text : List ℕ) → AreResults behind rs → Lays behind text → NoDigit (rest_of text)
results_no_digit behind rs text (each, items, shape) l =
    ⊎_elim (λ e. few_no_digit each rs text items e.0 (subst (λ ps. Lays ps text) e.1 l))
    (λ e.
    let k : Lays (mark (codes "(") ∷ (listed each ++ (mark (codes ")") ∷ []))) text = subst (λ ps. Lays ps text) e.1 l in
    gap_or NoDigit k.0 (codes "(") k.1 text k.2 k.3 (bracket_names 40 opening_named) (mark_no_digit 40 [] (listed each ++ (mark (codes ")") ∷ [])) text refl refl k)
    (many_no_digit each rs (mark (codes ")") ∷ []) k.1 items e.0 k.5)) shape

-- a size and what is behind it, where a parameter stands
abbrev Follows : List Part → List ℕ → Type 0
Follows behind hex = (behind ≡ []) ⊎ (behind ≡ mark (codes "=") ∷ (word hex ∷ []))

digit_named : (c : ℕ) → is_ascii_digit c ≡ true → is_name_byte c ≡ true
unfolding is_name_byte
digit_named c h = grind (arith, nat_tests)

digits_named : (ds : List ℕ) → AllByRecursion (λ c. is_ascii_digit c ≡ true) ds → AreNames ds
digits_named [] h = tt
digits_named (d ∷ ds) h = (digit_named d h.0, digits_named ds h.1)

size_front : (size : List ℕ) (all : ℕ) (behind : List Part) (text : List ℕ) → IsDecimal size all → (l : Lays (word size ∷ behind) text) → unblanked text ≡ size ++ l.1
size_front size all behind text d l = word_front is_ascii_digit size behind text digits_solid d.some (tests_of_digits size d.digits) l

not_sized : (size : List ℕ) (all : ℕ) (behind : List Part) (text : List ℕ) → IsDecimal size all → Lays (word size ∷ behind) text → NoDigit text → ⊥
not_sized [] all behind text d l n = absurd (let s = d.some in omega arith)
not_sized (c ∷ ds) all behind text d l n =
    let digit : is_ascii_digit c ≡ true = (tests_of_digits (c ∷ ds) d.digits).0 in
    let none : is_ascii_digit c ≡ false = n c (ds ++ l.1) (size_front (c ∷ ds) all behind text d l) in
    absurd (cc)

not_parameter : (size : List ℕ) (all : ℕ) (behind : List Part) (hex : List ℕ) (p : ParameterTree) (ty : List ℕ) (more : List Part) (text : List ℕ) → IsDecimal size all → Follows behind hex → Lays (word size ∷ behind) text
    → IsPlainName p.name → IsPlaceType ty p.ty → Lays (word p.name ∷ (word ty ∷ more)) text → ⊥
not_parameter size all behind hex p ty more text d f l n t k =
    let sized : rest_of (unblanked text) ≡ rest_of l.1 = ap rest_of (size_front size all behind text d l) ∙ rest_over size l.1 (digits_named size (tests_of_digits size d.digits)) in
    let named : rest_of (unblanked text) ≡ k.1 = ap rest_of (word_front is_plain_byte p.name (word ty ∷ more) text plains_solid n.some n.bytes k) ∙ rest_here p.name k.1 (plains_named p.name n.bytes) (begins_stop k.1 k.4) in
    let b = place_begins ty p.ty t in
    let front = type_front ty p.ty more k.1 t k.5 in
    ⊎_elim (λ e.
    let blanks : AreBlanks l.1 = subst (λ ps. Lays ps l.1) e l.5 in
    let same : l.1 ≡ k.1 = sym (rest_stop l.1 (blanks_stop l.1 blanks)) ∙ sym sized ∙ named in
    let none : b.first ∷ (b.more ++ k.5.1) ≡ [] = sym front ∙ ap unblanked (sym same) ∙ blank_empty l.1 blanks in
    absurd (cc))
    (λ e.
    let equals : Lays (mark (codes "=") ∷ (word hex ∷ [])) l.1 = subst (λ ps. Lays ps l.1) e l.5 in
    let same : l.1 ≡ k.1 = sym (mark_rest 61 [] (word hex ∷ []) l.1 equals_stops equals) ∙ sym sized ∙ named in
    let first : b.first ≡ 61 = heads b.first 61 (b.more ++ k.5.1) equals.1 (sym front ∙ ap unblanked (sym same) ∙ mark_front 61 [] (word hex ∷ []) l.1 refl equals) in
    unlike b.first 61 first b.unequal) f

-- behind the opening bracket
inside_not_sized : (each : List (List Part)) (ps : List ParameterTree) (behind : List Part) (rs : List Ty) (text : List ℕ) → AllZip IsParameter each ps → AreResults behind rs → Lays (listed each ++ (mark (codes ")") ∷ behind)) text
    → (size : List ℕ) (all : ℕ) (rest : List Part) (hex : List ℕ) → IsDecimal size all → Follows rest hex → Lays (word size ∷ rest) (rest_of text) → ⊥
inside_not_sized [] ps behind rs text z r l size all rest hex d f =
    gap_or (λ t. Lays (word size ∷ rest) t → ⊥) l.0 (codes ")") l.1 text l.2 l.3 (bracket_names 41 closing_named)
    (λ k. not_sized size all rest text d k (mark_no_digit 41 [] behind text refl refl l))
    (λ k. not_sized size all rest (rest_of l.1) d k (results_no_digit behind rs l.1 r l.5))
inside_not_sized (e ∷ each) [] behind rs text z r l size all rest hex d f = absurd z
inside_not_sized (e ∷ each) (p ∷ ps) behind rs text z r l size all rest hex d f =
    let more = behind_commas each ++ (mark (codes ")") ∷ behind) in
    let ty = z.0.0 in
    let k : Lays (word p.name ∷ (word ty ∷ more)) text = subst (λ qs. Lays ((qs ++ behind_commas each) ++ (mark (codes ")") ∷ behind)) text) z.0.1 l in
    gap_or (λ t. Lays (word size ∷ rest) t → ⊥) k.0 p.name k.1 text k.2 k.3 (plains_named p.name z.0.2.bytes)
    (λ m. not_parameter size all rest hex p ty more text d f m z.0.2 z.0.3 k)
    (λ m. not_sized size all rest (rest_of k.1) d m (subst NoDigit (sym (rest_stop k.1 (begins_stop k.1 k.4))) (type_no_digit ty p.ty more k.1 z.0.3 k.5)))

func_names : AreNames (codes "func")
unfolding is_name_byte
func_names = all_pass is_name_byte (codes "func") refl

var_names : AreNames (codes "var")
unfolding is_name_byte
var_names = all_pass is_name_byte (codes "var") refl

pub var_no_func : (line : List ℕ) (v : VarTree) (h : HeaderTree) → Spells IsVarLine line v → Spells IsFuncLine line h → ⊥
var_no_func line v h (ps, laid, (size, rest, named, sized, shaped, hex)) (qs, led, (each, behind, name, items, results, spelled)) =
    let inside = listed each ++ (mark (codes ")") ∷ behind) in
    let l : Lays (word (codes "var") ∷ (word v.name ∷ (word size ∷ rest))) line = subst (λ ps. Lays ps line) shaped laid in
    let k : Lays (word h.name ∷ (word (codes "func") ∷ (mark (codes "(") ∷ inside))) line = subst (λ ps. Lays ps line) spelled led in
    let m : Lays (word v.name ∷ (word size ∷ rest)) l.1 = l.5 in
    let n : Lays (word (codes "func") ∷ (mark (codes "(") ∷ inside)) k.1 = k.5 in
    let first : unblanked line ≡ codes "var" ++ l.1 = first_is 118 (codes "ar") (word v.name ∷ (word size ∷ rest)) line refl l in
    let second : unblanked line ≡ h.name ++ k.1 = word_front is_name_byte h.name (word (codes "func") ∷ (mark (codes "(") ∷ inside)) line names_solid name.some name.bytes k in
    let same : l.1 ≡ k.1 = sym (rest_here (codes "var") l.1 var_names (begins_stop l.1 l.4)) ∙ ap rest_of (sym first ∙ second) ∙ rest_here h.name k.1 name.bytes (begins_stop k.1 k.4) in
    let third : unblanked l.1 ≡ v.name ++ m.1 = word_front is_name_byte v.name (word size ∷ rest) l.1 names_solid named.some named.bytes m in
    let fourth : unblanked k.1 ≡ codes "func" ++ n.1 = first_is 102 (codes "unc") (mark (codes "(") ∷ inside) k.1 refl n in
    let behind_name : m.1 ≡ rest_of n.1 =
    sym (rest_here v.name m.1 named.bytes (begins_stop m.1 m.4)) ∙ ap rest_of (sym third ∙ ap unblanked same ∙ fourth) ∙ rest_over (codes "func") n.1 func_names in
    let o : Lays (mark (codes "(") ∷ inside) n.1 = n.5 in
    let s : Lays (word size ∷ rest) (rest_of n.1) = subst (Lays (word size ∷ rest)) behind_name m.5 in
    let follows : Follows rest v.hex = ⊎_elim (λ e. inl e.1) (λ e. inr e.1) hex in
    gap_or (λ t. Lays (word size ∷ rest) t → ⊥) o.0 (codes "(") o.1 n.1 o.2 o.3 (bracket_names 40 opening_named)
    (λ t. not_sized size sized.0 rest n.1 sized.1 t (mark_no_digit 40 [] inside n.1 refl refl o))
    (λ t. inside_not_sized each h.parameters behind h.results o.1 items results o.5 size sized.0 rest v.hex sized.1 follows t) s
