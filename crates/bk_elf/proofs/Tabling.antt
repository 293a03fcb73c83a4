-- What the reading of the symbols' sections tells.
use Rattle.std.proofs.Common.{◌≡◌, ℕ, ◌+◌, ◌-◌, ◌*◌, ◌/◌, ◌%◌, ◌<◌, ◌≤◌, true, false, ◌&&◌, List, length, map, [], ◌∷◌, suc, Bor, IsTrue, inl, inr, refl, sym, ap, ◌∙◌, arith}
use Rattle.std.proofs.Math.Nat.{div-add-mod'}
use Rattle.std.proofs.lemmas.Bool.{cases_lt, and_from, and_left, and_right}
use Rattle.std.proofs.lemmas.List.{length-map}
use Rattle.bk_elf.specs.declared.symbols.Entry.{Entry}
use Rattle.bk_elf.specs.declared.errors.LoadError.{LoadError}
use Rattle.bk_elf.specs.declared.tables.Section.TheVariants.{Symtab, Strtab}
use Rattle.bk_elf.specs.Loading.{content, entries_read, names_at, extent_read, places_read, names_read, are_places, are_distinct, holds_entries, holds_symbols, holds, is_placed, fit_before, Refuses, IsAt, IsCause}
use Rattle.bk_elf.proofs.Faults.{fault_holds, fit_symtab}

pub no_entries : (bytes : List ℕ) → holds_entries bytes ≡ false → holds_symbols bytes ≡ false
unfolding holds_symbols
no_entries bytes h = and_left (holds_entries bytes) (are_places (extent_read bytes Strtab) (places_read bytes) && are_distinct (names_read bytes)) h

-- what keeps the entries from being read keeps the symbols
pub entries_refused : (bytes : List ℕ) (e : LoadError) → Refuses (holds_entries bytes) e → Refuses (holds_symbols bytes) e
entries_refused bytes e (inl memory) = inl memory
entries_refused bytes e (inr fails) = inr (fails.0, no_entries bytes fails.1)

pub no_places : (bytes : List ℕ) → are_places (extent_read bytes Strtab) (places_read bytes) ≡ false → holds_symbols bytes ≡ false
unfolding holds_symbols
no_places bytes h =
    and_right (holds_entries bytes) (are_places (extent_read bytes Strtab) (places_read bytes) && are_distinct (names_read bytes))
    (and_left (are_places (extent_read bytes Strtab) (places_read bytes)) (are_distinct (names_read bytes)) h)

pub no_distinct : (bytes : List ℕ) → are_distinct (names_read bytes) ≡ false → holds_symbols bytes ≡ false
unfolding holds_symbols
no_distinct bytes h =
    and_right (holds_entries bytes) (are_places (extent_read bytes Strtab) (places_read bytes) && are_distinct (names_read bytes))
    (and_right (are_places (extent_read bytes Strtab) (places_read bytes)) (are_distinct (names_read bytes)) h)

pub all_symbols : (bytes : List ℕ) → holds_entries bytes ≡ true → are_places (extent_read bytes Strtab) (places_read bytes) ≡ true
    → are_distinct (names_read bytes) ≡ true → holds_symbols bytes ≡ true
unfolding holds_symbols
all_symbols bytes a b d =
    and_from (holds_entries bytes) (are_places (extent_read bytes Strtab) (places_read bytes) && are_distinct (names_read bytes)) a
    (and_from (are_places (extent_read bytes Strtab) (places_read bytes)) (are_distinct (names_read bytes)) b d)

symbols_held : (bytes : List ℕ) → holds bytes Symtab ≡ holds_symbols bytes
unfolding holds
symbols_held bytes = refl

-- what keeps the symbols from being read is a cause
pub symbols_refused : (bytes : List ℕ) (place : ℕ) (e : LoadError) → IsAt bytes Symtab place → Refuses (holds_symbols bytes) e → IsCause bytes e
symbols_refused bytes place e h (inl memory) = inl memory
symbols_refused bytes place e h (inr fails) = inr (rw fails.0 (fault_holds bytes Symtab h.fit (symbols_held bytes ∙ fails.1)))

-- where they are read, the section holds what it must
pub symbols_next : (bytes : List ℕ) (place : ℕ) → IsAt bytes Symtab place → is_placed bytes Symtab ≡ true → holds_symbols bytes ≡ true → IsTrue (fit_before bytes Strtab)
symbols_next bytes place h placed held = fit_symtab bytes h.fit placed (symbols_held bytes ∙ held)

-- the symbols after the first one lie in their section
pub tail_room : (len size : ℕ) → len % size ≡ 0 → 0 < size → size ≤ len → (len / size - 1) * size ≤ len - size
tail_room len size whole some room =
    let all = div-add-mod' len size in
    elim (cases_lt 0 (len / size)) [
      | inl above ↦
          let e : len / size ≡ (len / size - 1) + 1 = omega arith in
          let m : len / size * size ≡ ((len / size - 1) + 1) * size = ap (λ n. n * size) e in
          omega arith
      | inr none ↦ let e : len / size - 1 ≡ 0 = omega arith in rw e (omega arith)
    ]

length-names_at : (bytes : List ℕ) (size : ℕ) (places : List ℕ) → length (names_at bytes size places) ≡ length places
unfolding names_at
length-names_at bytes size [] = refl
length-names_at bytes size (p ∷ places) = ap suc (length-names_at bytes size places)

-- a name for each entry
pub names_count : (bytes : List ℕ) → length (names_read bytes) ≡ length (entries_read bytes)
unfolding names_read
names_count bytes =
    length-names_at (content bytes Strtab) (extent_read bytes Strtab) (places_read bytes) ∙ length-map (entries_read bytes) (λ e. e.name)

pub same_count : (bytes : List ℕ) (entries : List Entry) (names : List (Bor (List ℕ))) → entries ≡ entries_read bytes → map (λ n. n.now) names ≡ names_read bytes
    → length entries ≡ length names
same_count bytes entries names e n = ap length e ∙ sym (names_count bytes) ∙ sym (ap length n) ∙ length-map names (λ n. n.now)
