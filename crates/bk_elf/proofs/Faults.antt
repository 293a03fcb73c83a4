-- The first section at fault.
use Rattle.std.proofs.Common.{◌≡◌, ℕ, Bool, true, false, not, List, [], ◌∷◌, ◌++◌, Option, Some, None, find, inl, inr, refl, ap, ◌∙◌, IsTrue}
use Rattle.std.proofs.lemmas.Bool.{and_parts, and_from, and_left, and_right, cases_Bool}
use Rattle.std.specs.List.{list_all}
use Rattle.bk_elf.specs.declared.errors.LoadError.TheVariants.{BadSection}
use Rattle.bk_elf.specs.declared.tables.Section.{Section}
use Rattle.bk_elf.specs.declared.tables.Section.TheVariants.{Null, Text, Pool, Data, Gosig, Symtab, Strtab, Shstrtab}
use Rattle.bk_elf.specs.Tables.{number_of, sections}
use Rattle.bk_elf.specs.Loading.{is_placed, holds, fits, fit_before, section_fault, at_section}

find_first : (p : Section → Bool) (before : List Section) (x : Section) (after : List Section) → list_all p before ≡ true → p x ≡ false
    → find (λ s. not (p s)) (before ++ x ∷ after) ≡ Some x
find_first p [] x after h fails = rw fails refl
find_first p (y ∷ before) x after h fails =
    let parts = and_parts (p y) (list_all p before) h in
    rw parts.0 (find_first p before x after parts.1 fails)

find_none : (p : Section → Bool) (xs : List Section) → list_all p xs ≡ true → find (λ s. not (p s)) xs ≡ None
find_none p [] h = refl
find_none p (x ∷ xs) h =
    let parts = and_parts (p x) (list_all p xs) h in
    rw parts.0 (find_none p xs parts.1)

all_more : (p : Section → Bool) (xs : List Section) (x : Section) → list_all p xs ≡ true → p x ≡ true → list_all p (xs ++ x ∷ []) ≡ true
all_more p [] x h passes = rw passes refl
all_more p (y ∷ xs) x h passes =
    let parts = and_parts (p y) (list_all p xs) h in
    rw parts.0 (all_more p xs x parts.1 passes)

fault_is : (bytes : List ℕ) (before : List Section) (s : Section) (after : List Section) → sections ≡ before ++ s ∷ after
    → list_all (fits bytes) before ≡ true → fits bytes s ≡ false → section_fault bytes ≡ Some (BadSection (number_of s))
unfolding section_fault
fault_is bytes before s after e h fails =
    ap (λ (xs : List Section). at_section (find (λ x. not (fits bytes x)) xs)) e ∙ ap at_section (find_first (fits bytes) before s after h fails)

-- where the sections before one fit and it does not, it is at fault
pub fault_at : (bytes : List ℕ) (s : Section) → IsTrue (fit_before bytes s) → fits bytes s ≡ false
    → section_fault bytes ≡ Some (BadSection (number_of s))
unfolding fit_before
fault_at bytes Null h fails = fault_is bytes [] Null (Text ∷ Pool ∷ Data ∷ Gosig ∷ Symtab ∷ Strtab ∷ Shstrtab ∷ []) refl h fails
fault_at bytes Text h fails = fault_is bytes (Null ∷ []) Text (Pool ∷ Data ∷ Gosig ∷ Symtab ∷ Strtab ∷ Shstrtab ∷ []) refl h fails
fault_at bytes Pool h fails = fault_is bytes (Null ∷ Text ∷ []) Pool (Data ∷ Gosig ∷ Symtab ∷ Strtab ∷ Shstrtab ∷ []) refl h fails
fault_at bytes Data h fails = fault_is bytes (Null ∷ Text ∷ Pool ∷ []) Data (Gosig ∷ Symtab ∷ Strtab ∷ Shstrtab ∷ []) refl h fails
fault_at bytes Gosig h fails = fault_is bytes (Null ∷ Text ∷ Pool ∷ Data ∷ []) Gosig (Symtab ∷ Strtab ∷ Shstrtab ∷ []) refl h fails
fault_at bytes Symtab h fails = fault_is bytes (Null ∷ Text ∷ Pool ∷ Data ∷ Gosig ∷ []) Symtab (Strtab ∷ Shstrtab ∷ []) refl h fails
fault_at bytes Strtab h fails = fault_is bytes (Null ∷ Text ∷ Pool ∷ Data ∷ Gosig ∷ Symtab ∷ []) Strtab (Shstrtab ∷ []) refl h fails
fault_at bytes Shstrtab h fails = fault_is bytes (Null ∷ Text ∷ Pool ∷ Data ∷ Gosig ∷ Symtab ∷ Strtab ∷ []) Shstrtab [] refl h fails

-- a section that does not stand as it must is at fault, and so is one that does not hold what it must
pub fault_placed : (bytes : List ℕ) (s : Section) → IsTrue (fit_before bytes s) → is_placed bytes s ≡ false
    → section_fault bytes ≡ Some (BadSection (number_of s))
fault_placed bytes s h fails = fault_at bytes s h (and_left (is_placed bytes s) (holds bytes s) fails)

pub fault_holds : (bytes : List ℕ) (s : Section) → IsTrue (fit_before bytes s) → holds bytes s ≡ false
    → section_fault bytes ≡ Some (BadSection (number_of s))
fault_holds bytes s h fails = fault_at bytes s h (and_right (is_placed bytes s) (holds bytes s) fails)

-- the next section, where there is one
abbrev pub next_section : Section → Section
next_section Null = Text
next_section Text = Pool
next_section Pool = Data
next_section Data = Gosig
next_section Gosig = Symtab
next_section Symtab = Strtab
next_section Strtab = Shstrtab
next_section Shstrtab = Shstrtab

fit_more : (bytes : List ℕ) (before : List Section) (s : Section) → list_all (fits bytes) before ≡ true → is_placed bytes s ≡ true → holds bytes s ≡ true
    → list_all (fits bytes) (before ++ s ∷ []) ≡ true
fit_more bytes before s h placed held = all_more (fits bytes) before s h (and_from (is_placed bytes s) (holds bytes s) placed held)

-- after a section that fits
pub fit_null : (bytes : List ℕ) → is_placed bytes Null ≡ true → IsTrue (fit_before bytes Text)
unfolding fit_before holds
fit_null bytes placed = fit_more bytes [] Null refl placed refl

pub fit_text : (bytes : List ℕ) → IsTrue (fit_before bytes Text) → is_placed bytes Text ≡ true → holds bytes Text ≡ true → IsTrue (fit_before bytes Pool)
unfolding fit_before
fit_text bytes h placed held = fit_more bytes (Null ∷ []) Text h placed held

pub fit_pool : (bytes : List ℕ) → IsTrue (fit_before bytes Pool) → is_placed bytes Pool ≡ true → holds bytes Pool ≡ true → IsTrue (fit_before bytes Data)
unfolding fit_before
fit_pool bytes h placed held = fit_more bytes (Null ∷ Text ∷ []) Pool h placed held

pub fit_data : (bytes : List ℕ) → IsTrue (fit_before bytes Data) → is_placed bytes Data ≡ true → holds bytes Data ≡ true → IsTrue (fit_before bytes Gosig)
unfolding fit_before
fit_data bytes h placed held = fit_more bytes (Null ∷ Text ∷ Pool ∷ []) Data h placed held

pub fit_gosig : (bytes : List ℕ) → IsTrue (fit_before bytes Gosig) → is_placed bytes Gosig ≡ true → holds bytes Gosig ≡ true → IsTrue (fit_before bytes Symtab)
unfolding fit_before
fit_gosig bytes h placed held = fit_more bytes (Null ∷ Text ∷ Pool ∷ Data ∷ []) Gosig h placed held

pub fit_symtab : (bytes : List ℕ) → IsTrue (fit_before bytes Symtab) → is_placed bytes Symtab ≡ true → holds bytes Symtab ≡ true → IsTrue (fit_before bytes Strtab)
unfolding fit_before
fit_symtab bytes h placed held = fit_more bytes (Null ∷ Text ∷ Pool ∷ Data ∷ Gosig ∷ []) Symtab h placed held

pub fit_strtab : (bytes : List ℕ) → IsTrue (fit_before bytes Strtab) → is_placed bytes Strtab ≡ true → holds bytes Strtab ≡ true → IsTrue (fit_before bytes Shstrtab)
unfolding fit_before
fit_strtab bytes h placed held = fit_more bytes (Null ∷ Text ∷ Pool ∷ Data ∷ Gosig ∷ Symtab ∷ []) Strtab h placed held

-- where all fit there is fails fault
pub fit_all : (bytes : List ℕ) → IsTrue (fit_before bytes Shstrtab) → is_placed bytes Shstrtab ≡ true → holds bytes Shstrtab ≡ true
    → section_fault bytes ≡ None
unfolding fit_before section_fault
fit_all bytes h placed held = ap at_section (find_none (fits bytes) sections (fit_more bytes (Null ∷ Text ∷ Pool ∷ Data ∷ Gosig ∷ Symtab ∷ Strtab ∷ []) Shstrtab h placed held))

-- no section stands before the first
pub fit_start : (bytes : List ℕ) → IsTrue (fit_before bytes Null)
unfolding fit_before
fit_start bytes = refl

all_pass : (p : Section → Bool) (xs : List Section) → ((s : Section) → p s ≡ true) → list_all p xs ≡ true
all_pass p [] h = refl
all_pass p (x ∷ xs) h = and_from (p x) (list_all p xs) (h x) (all_pass p xs h)

pub all_fit : (bytes : List ℕ) → ((s : Section) → fits bytes s ≡ true) → section_fault bytes ≡ None
unfolding section_fault
all_fit bytes h = ap at_section (find_none (fits bytes) sections (all_pass (fits bytes) sections h))

none_fails : (p : Section → Bool) (xs : List Section) → find (λ s. not (p s)) xs ≡ None → list_all p xs ≡ true
none_fails p [] h = refl
none_fails p (x ∷ xs) h = elim (cases_Bool (p x)) [
  | inl passes ↦ rw passes (none_fails p xs (rw passes at h))
  | inr fails ↦ let k = rw fails at h in cc
]

no_section : (o : Option Section) → at_section o ≡ None → o ≡ None
no_section None h = refl
no_section (Some s) h = cc

one_of : (bytes : List ℕ) → fits bytes Null ≡ true → fits bytes Text ≡ true → fits bytes Pool ≡ true → fits bytes Data ≡ true → fits bytes Gosig ≡ true → fits bytes Symtab ≡ true → fits bytes Strtab ≡ true → fits bytes Shstrtab ≡ true → (s : Section) → fits bytes s ≡ true
one_of bytes a b d e f g k l Null = a
one_of bytes a b d e f g k l Text = b
one_of bytes a b d e f g k l Pool = d
one_of bytes a b d e f g k l Data = e
one_of bytes a b d e f g k l Gosig = f
one_of bytes a b d e f g k l Symtab = g
one_of bytes a b d e f g k l Strtab = k
one_of bytes a b d e f g k l Shstrtab = l

-- where no section is at fault, each fits
pub fit_each : (bytes : List ℕ) → section_fault bytes ≡ None → (s : Section) → fits bytes s ≡ true
unfolding section_fault
fit_each bytes h s =
    let p = fits bytes in
    let all = none_fails p sections (no_section (find (λ x. not (p x)) sections) h) in
    let a = and_parts (p Null) (list_all p (Text ∷ Pool ∷ Data ∷ Gosig ∷ Symtab ∷ Strtab ∷ Shstrtab ∷ [])) all in
    let b = and_parts (p Text) (list_all p (Pool ∷ Data ∷ Gosig ∷ Symtab ∷ Strtab ∷ Shstrtab ∷ [])) a.1 in
    let d = and_parts (p Pool) (list_all p (Data ∷ Gosig ∷ Symtab ∷ Strtab ∷ Shstrtab ∷ [])) b.1 in
    let e = and_parts (p Data) (list_all p (Gosig ∷ Symtab ∷ Strtab ∷ Shstrtab ∷ [])) d.1 in
    let f = and_parts (p Gosig) (list_all p (Symtab ∷ Strtab ∷ Shstrtab ∷ [])) e.1 in
    let g = and_parts (p Symtab) (list_all p (Strtab ∷ Shstrtab ∷ [])) f.1 in
    let k = and_parts (p Strtab) (list_all p (Shstrtab ∷ [])) g.1 in
    let l = and_parts (p Shstrtab) true k.1 in
    one_of bytes a.0 b.0 d.0 e.0 f.0 g.0 k.0 l.0 s
