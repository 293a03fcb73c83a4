-- What is written is loaded as the same fields.
use Rattle.std.proofs.Common.{◌≡◌, ℕ, zero, suc, ◌+◌, ◌-◌, ◌*◌, ◌/◌, ◌%◌, ◌^◌, ◌<◌, ◌≤◌, ◌==◌, true, false, ◌&&◌, nat_lt, nat_le, List, [], ◌∷◌, ◌++◌, length, take, drop, map, replicate, Option, None, Some, Ok, add-one, inl, inr, refl, sym, ap, subst, ◌∙◌, arith}
use Rattle.std.proofs.lemmas.List.{length-replicate, take_at, drop_at}
use Rattle.std.proofs.lemmas.List.Elements.{recursion_from_All}
use Rattle.std.proofs.lemmas.Bool.{and_parts, and_from, cases_Bool, lt-ltb, le-ltb, le-leb, leb-true, ltb-true, eq-eqb}
use Rattle.std.proofs.Math.Nat.{mul-mod_right, mul-le-mul_right}
use Rattle.std.specs.List.{AllByRecursion, list_all, flat_map, Contains, position_or_len}
use Rattle.std.specs.Str.{bytes_eq, IsUtf8}
use Rattle.std.proofs.lemmas.Slice.Eq.{bytes_eq-Decides}
use Rattle.byteorder.specs.Endian.{little_bytes}
use Rattle.bk_ops.specs.declared.types.Target.{Target}
use Rattle.bk_ops.specs.declared.types.Target.TheVariants.{Arm, Riscv64}
use Rattle.bk_ops.specs.declared.types.Ty.{Ty}
use Rattle.bk_ops.specs.Types.{code_of}
use Rattle.bk_func.specs.Records.{SigRecord}
use Rattle.bk_elf.specs.declared.tables.Section.{Section}
use Rattle.bk_elf.specs.declared.tables.Section.TheVariants.{Null, Text, Pool, Data, Gosig, Symtab, Strtab, Shstrtab}
use Rattle.bk_elf.specs.declared.layout.Sizes.{Sizes}
use Rattle.bk_elf.specs.declared.symbols.Entry.{Entry}
use Rattle.bk_elf.specs.Records.{SymbolRecord, ObjectRecord}
use Rattle.bk_elf.specs.Tables.{class_of}
use Rattle.bk_elf.specs.Layout.{size_of, e_shoff}
use Rattle.bk_elf.specs.Lists.{rises_from, is_rising, is_zero, each, numbers}
use Rattle.bk_elf.specs.Object.{are_codes, IsSig, IsCode, name_places, IsObject, IsTyped, IsWide, FitsAddress, narrowed}
use Rattle.bk_elf.specs.Contents.{place_of_code, place_of_type, sig_words, gosig_words, names_of, name_bytes, entry_bytes, symbol_bytes}
use Rattle.bk_elf.specs.File.{file_of}
use Rattle.bk_elf.specs.Loading.{target_of, extent_read, content, text_read, constants_read, functions_read, gosig_read, entry_bytes_read, entries_read, places_read, names_read, each_symbol, is_code, is_entry, entry_at, holds_entries, holds_symbols, holds_names, holds, is_placed, are_places, are_distinct, fault_of, loaded}
use Rattle.bk_elf.proofs.Spelling.{FitAll, numbers_read, count_is}
use Rattle.bk_elf.proofs.Sigs.{gosig_forth}
use Rattle.bk_elf.proofs.Entries.{IsSmall, CodeIf, spelled_entries, entries_forth, are_entries_forth, functions_after, entries_of, bytes_of_entries, length-entries_of, places_of_entries, symbols_of_entries, functions_of_entries}
use Rattle.bk_elf.proofs.NamePlaces.{names_read_back, are_places_forth, distinct_forth, texts_forth}
use Rattle.bk_elf.proofs.Whole.{whole_of, image_whole, wide_from, narrowed_same}
use Rattle.bk_elf.proofs.Framing.{sizes_in}
use Rattle.bk_elf.proofs.Framed.{contents_of, sizes_same, file_is, length-numbers, length-symbols}
use Rattle.bk_elf.proofs.Standing.{Framed, framed_from, held_in}
use Rattle.bk_elf.proofs.Readings.{elf_read, target_read, offset_is_read, sizes_are_read, header_read}
use Rattle.bk_elf.proofs.Placings.{content_read, placed, ended_read}
use Rattle.bk_elf.proofs.Faults.{all_fit}
use Rattle.bk_elf.proofs.Writing.{codes_few}

-- places of codes are few
place_small : (codes : List ℕ) (o : Option ℕ) → length codes < 2 ^ 32 → place_of_code codes o < 2 ^ 32
place_small codes None few = omega arith
place_small codes (Some code) few = elim (cases_Bool (nat_lt (position_or_len (λ c. c == code) codes) (length codes))) [
  | inl holds ↦ let lt = ltb-true (position_or_len (λ c. c == code) codes) (length codes) holds in rw holds (omega arith)
  | inr fails ↦ rw fails (omega arith)
]

fit_append : (xs ys : List ℕ) → FitAll 4 xs → FitAll 4 ys → FitAll 4 (xs ++ ys)
fit_append [] ys a b = b
fit_append (x ∷ xs) ys a b = (a.0, fit_append xs ys a.1 b)

fit_places : (codes : List ℕ) (ts : List Ty) → length codes < 2 ^ 32 → FitAll 4 (map (place_of_type codes) ts)
fit_places codes [] few = tt
fit_places codes (t ∷ ts) few = (place_small codes (code_of t) few, fit_places codes ts few)

fit_sigs : (codes : List ℕ) (sigs : List SigRecord) → length codes < 2 ^ 32 → AllByRecursion (IsSig codes) sigs → FitAll 4 (flat_map (sig_words codes) sigs)
unfolding sig_words
fit_sigs codes [] few h = tt
fit_sigs codes (s ∷ sigs) few h =
    let small = h.0.few in
    fit_append (length s.args ∷ length s.results ∷ (map (place_of_type codes) s.args ++ map (place_of_type codes) s.results)) (flat_map (sig_words codes) sigs)
    (omega arith, (omega arith, fit_append (map (place_of_type codes) s.args) (map (place_of_type codes) s.results) (fit_places codes s.args few) (fit_places codes s.results few)))
    (fit_sigs codes sigs few h.1)

fit_codes : (codes : List ℕ) → list_all (λ c. nat_le c 13) codes ≡ true → FitAll 4 codes
fit_codes [] h = tt
fit_codes (c ∷ codes) h =
    let parts = and_parts (nat_le c 13) (list_all (λ x. nat_le x 13) codes) h in
    let small = leb-true c 13 parts.0 in
    (omega arith, fit_codes codes parts.1)

gosig_fit : (codes : List ℕ) (sigs : List SigRecord) → are_codes codes ≡ true → AllByRecursion (IsSig codes) sigs → FitAll 4 (gosig_words codes sigs)
unfolding gosig_words
gosig_fit codes sigs good h =
    let few = codes_few codes good in
    let parts = and_parts (rises_from 0 codes) (list_all (λ c. nat_le c 13) codes) good in
    (few, fit_append codes (flat_map (sig_words codes) sigs) (fit_codes codes parts.1) (fit_sigs codes sigs few h))

small_entries : (t : Target) (place : ℕ) (ss : List SymbolRecord) → AllByRecursion (λ n. n < 2 ^ 32) (name_places place (names_of ss))
    → AllByRecursion (λ s. FitsAddress t s.address × FitsAddress t s.size) ss → AllByRecursion (IsSmall t) (entries_of place ss)
small_entries t place [] a b = tt
small_entries t place (s ∷ ss) a b = ((a.0, b.0.0, b.0.1), small_entries t (place + length s.name + 1) ss a.1 b.1)

code_if : (words : ℕ) (address : ℕ) → IsCode words address → is_code (4 * words) address ≡ true
code_if words address h =
    let whole = h.whole in
    let low = h.low in
    let high = h.high in
    and_from (address % 4 == 0) (nat_le 65536 address && nat_lt (address - 65536) (4 * words)) (eq-eqb (address % 4) 0 whole)
    (and_from (nat_le 65536 address) (nat_lt (address - 65536) (4 * words)) (le-leb 65536 address low) (lt-ltb (address - 65536) (4 * words) (omega arith)))

pub code_entries : (words place : ℕ) (ss : List SymbolRecord) → AllByRecursion (λ s. s.func ≡ true → IsCode words s.address) ss
    → AllByRecursion (CodeIf (4 * words)) (entries_of place ss)
code_entries words place [] h = tt
code_entries words place (s ∷ ss) h =
    ((λ e. code_if words s.address (h.0 e)), code_entries words (place + length s.name + 1) ss h.1)

-- a file framed by the contents of an object
record FileOf (bytes : List ℕ) (o : ObjectRecord) : Type 0 where
  framed : Framed bytes o.target (contents_of o)
  small : FitsAddress o.target (e_shoff o.target (sizes_in (contents_of o)))
  object : IsObject o
  typed : IsWide o

extent_is : (bytes : List ℕ) (o : ObjectRecord) → FileOf bytes o → (s : Section) → extent_read bytes s ≡ size_of (sizes_in (contents_of o)) s
extent_is bytes o h s = ap (λ (z : Sizes). size_of z s) (sizes_are_read bytes o.target (contents_of o) h.framed h.small)

held : (bytes : List ℕ) (o : ObjectRecord) → FileOf bytes o → (s : Section) → content bytes s ≡ held_in (contents_of o) s
held bytes o h s = content_read bytes o.target (contents_of o) h.framed h.small s

-- numbers of a size are read back
numbers_held : (size extent : ℕ) (ns xs : List ℕ) → 0 < size → FitAll size ns → extent ≡ size * length ns → xs ≡ flat_map (little_bytes size) ns
    → numbers size (extent / size) xs ≡ ns
numbers_held size extent ns xs some fit e is =
    let count : extent / size ≡ length ns = ap (λ n. n / size) e ∙ count_is size (length ns) some in
    rw (count, is) (numbers_read size ns fit)

text_is : (bytes : List ℕ) (o : ObjectRecord) → FileOf bytes o → text_read bytes ≡ o.text
text_is bytes o h =
    numbers_held 4 (extent_read bytes Text) o.text (content bytes Text) (omega arith) (recursion_from_All (λ n. n < 2 ^ 32) o.text h.typed.text)
    (extent_is bytes o h Text ∙ length-numbers 4 o.text) (held bytes o h Text)

pool_is : (bytes : List ℕ) (o : ObjectRecord) → FileOf bytes o → constants_read bytes ≡ o.pool
pool_is bytes o h =
    numbers_held 8 (extent_read bytes Pool) o.pool (content bytes Pool) (omega arith) (recursion_from_All (λ n. n < 2 ^ 64) o.pool h.typed.pool)
    (extent_is bytes o h Pool ∙ length-numbers 8 o.pool) (held bytes o h Pool)

whole_size : (size n : ℕ) → 0 < size → size * n % size ≡ 0
whole_size size n some = mul-mod_right size n

text_holds : (bytes : List ℕ) (o : ObjectRecord) → FileOf bytes o → holds bytes Text ≡ true
unfolding holds
text_holds bytes o h =
    let size = extent_is bytes o h Text ∙ length-numbers 4 o.text in
    eq-eqb (extent_read bytes Text % 4) 0 (ap (λ n. n % 4) size ∙ whole_size 4 (length o.text) (omega arith))

pool_holds : (bytes : List ℕ) (o : ObjectRecord) → FileOf bytes o → holds bytes Pool ≡ true
unfolding holds
pool_holds bytes o h =
    let text = extent_is bytes o h Text ∙ length-numbers 4 o.text in
    let size = extent_is bytes o h Pool ∙ length-numbers 8 o.pool in
    let whole : extent_read bytes Pool % 8 ≡ 0 = ap (λ n. n % 8) size ∙ whole_size 8 (length o.pool) (omega arith) in
    let room = h.object.code in
    and_from (extent_read bytes Pool % 8 == 0 && nat_le (extent_read bytes Text + extent_read bytes Pool) 16777216) (is_rising (constants_read bytes))
    (and_from (extent_read bytes Pool % 8 == 0) (nat_le (extent_read bytes Text + extent_read bytes Pool) 16777216) (eq-eqb (extent_read bytes Pool % 8) 0 whole)
    (le-leb (extent_read bytes Text + extent_read bytes Pool) 16777216 (omega arith)))
    (ap is_rising (pool_is bytes o h) ∙ h.object.pool)

window_holds : (bytes : List ℕ) (o : ObjectRecord) → FileOf bytes o → holds bytes Data ≡ true
unfolding holds
window_holds bytes o h =
    let size = extent_is bytes o h Data in
    let room = h.object.window in
    and_from (extent_read bytes Data % 8 == 0) (nat_le (extent_read bytes Data) 1048576)
    (eq-eqb (extent_read bytes Data % 8) 0 (ap (λ n. n % 8) size ∙ h.object.whole)) (le-leb (extent_read bytes Data) 1048576 (omega arith))

some_size : (t : Target) → 0 < (class_of t).st_entsize
some_size Arm = omega arith
some_size Riscv64 = omega arith

-- the entries of the symbols after the first one
tail_is : (t : Target) (ss : List SymbolRecord) → drop (class_of t).st_entsize (symbol_bytes t ss) ≡ spelled_entries t (entries_of 1 ss)
unfolding symbol_bytes
tail_is t ss =
    drop_at (replicate (class_of t).st_entsize 0) (entry_bytes t 1 ss) (class_of t).st_entsize (length-replicate {A = ℕ} (class_of t).st_entsize 0) ∙ bytes_of_entries t 1 ss

zero_all : (n : ℕ) → is_zero (replicate n 0) ≡ true
zero_all zero = refl
zero_all (suc n) = zero_all n

head_is : (t : Target) (ss : List SymbolRecord) → is_zero (take (class_of t).st_entsize (symbol_bytes t ss)) ≡ true
unfolding symbol_bytes
head_is t ss =
    rw (take_at (replicate (class_of t).st_entsize 0) (entry_bytes t 1 ss) (class_of t).st_entsize (length-replicate {A = ℕ} (class_of t).st_entsize 0))
    (zero_all (class_of t).st_entsize)

entries_fit : (o : ObjectRecord) → IsObject o → IsWide o → AllByRecursion (IsSmall o.target) (entries_of 1 o.symbols)
entries_fit o h y =
    small_entries o.target 1 o.symbols (recursion_from_All (λ n. n < 2 ^ 32) (name_places 1 (names_of o.symbols)) h.places)
    (recursion_from_All (λ s. FitsAddress o.target s.address × FitsAddress o.target s.size) o.symbols y.symbols)

product_above : (a n : ℕ) → 0 < a → 0 < a * (n + 1)
product_above a n some = let m : 1 * (n + 1) ≤ a * (n + 1) = mul-le-mul_right (n + 1) some in omega arith

-- the symbols' section, as read
symtab_size : (bytes : List ℕ) (o : ObjectRecord) → FileOf bytes o → extent_read bytes Symtab ≡ (class_of o.target).st_entsize * (length o.symbols + 1)
symtab_size bytes o h = extent_is bytes o h Symtab ∙ length-symbols o.target o.symbols

count_after : (t : Target) (n extent : ℕ) → extent ≡ (class_of t).st_entsize * (n + 1) → extent / (class_of t).st_entsize - 1 ≡ n
count_after t n extent e =
    let s = (class_of t).st_entsize in
    let c : extent / s ≡ n + 1 = ap (λ m. m / s) e ∙ count_is s (n + 1) (some_size t) in
    omega arith

each_is : {X : Type 0} (bytes : List ℕ) (o : ObjectRecord) → FileOf bytes o → (f : List ℕ → X)
    → each_symbol bytes f ≡ each f (class_of o.target).st_entsize (length (entries_of 1 o.symbols)) (spelled_entries o.target (entries_of 1 o.symbols))
each_is bytes o h f =
    let target = target_read bytes o.target (contents_of o) h.framed h.small in
    let entry : entry_bytes_read bytes ≡ (class_of o.target).st_entsize = ap (λ (t : Target). (class_of t).st_entsize) target in
    let count = count_after o.target (length o.symbols) (extent_read bytes Symtab) (symtab_size bytes o h) in
    rw (entry, count, held bytes o h Symtab, tail_is o.target o.symbols, ← length-entries_of 1 o.symbols) refl

entries_is : (bytes : List ℕ) (o : ObjectRecord) → FileOf bytes o → entries_read bytes ≡ entries_of 1 o.symbols
unfolding entries_read
entries_is bytes o h =
    let target = target_read bytes o.target (contents_of o) h.framed h.small in
    each_is bytes o h (entry_at (target_of bytes)) ∙ rw target (entries_forth o.target (entries_of 1 o.symbols) (entries_fit o h.object h.typed))

places_are : (bytes : List ℕ) (o : ObjectRecord) → FileOf bytes o → places_read bytes ≡ name_places 1 (names_of o.symbols)
places_are bytes o h = ap (map (λ (e : Entry). e.name)) (entries_is bytes o h) ∙ places_of_entries 1 o.symbols

names_is : (bytes : List ℕ) (o : ObjectRecord) → FileOf bytes o → names_read bytes ≡ names_of o.symbols
unfolding names_read
names_is bytes o h =
    rw (held bytes o h Strtab, extent_is bytes o h Strtab, places_are bytes o h) (names_read_back (names_of o.symbols))

entries_hold : (bytes : List ℕ) (o : ObjectRecord) → FileOf bytes o → holds_entries bytes ≡ true
unfolding holds_entries
entries_hold bytes o h =
    let t = o.target in
    let target = target_read bytes t (contents_of o) h.framed h.small in
    let entry : entry_bytes_read bytes ≡ (class_of t).st_entsize = ap (λ (x : Target). (class_of x).st_entsize) target in
    let size = symtab_size bytes o h in
    let text : extent_read bytes Text ≡ 4 * length o.text = extent_is bytes o h Text ∙ length-numbers 4 o.text in
    let some = some_size t in
    let whole : (extent_read bytes Symtab % entry_bytes_read bytes == 0) ≡ true =
    rw (entry, size) (eq-eqb ((class_of t).st_entsize * (length o.symbols + 1) % (class_of t).st_entsize) 0 (whole_size (class_of t).st_entsize (length o.symbols + 1) some)) in
    let first : nat_lt 0 (extent_read bytes Symtab) ≡ true =
    rw size (lt-ltb 0 ((class_of t).st_entsize * (length o.symbols + 1)) (product_above (class_of t).st_entsize (length o.symbols) some)) in
    let zeros : is_zero (take (entry_bytes_read bytes) (content bytes Symtab)) ≡ true = rw (entry, held bytes o h Symtab) (head_is t o.symbols) in
    let all : list_all (λ b. b) (each_symbol bytes (is_entry (target_of bytes) (extent_read bytes Text))) ≡ true =
    ap (list_all (λ b. b)) (each_is bytes o h (is_entry (target_of bytes) (extent_read bytes Text)))
    ∙ rw (target, text) (are_entries_forth t (4 * length o.text) (entries_of 1 o.symbols) (entries_fit o h.object h.typed)
    (code_entries (length o.text) 1 o.symbols (recursion_from_All (λ s. s.func ≡ true → IsCode (length o.text) s.address) o.symbols h.object.placed))) in
    rw (whole, first, zeros, all) refl

symbols_hold : (bytes : List ℕ) (o : ObjectRecord) → FileOf bytes o → holds_symbols bytes ≡ true
unfolding holds_symbols
symbols_hold bytes o h =
    let names = names_of o.symbols in
    let places : are_places (extent_read bytes Strtab) (places_read bytes) ≡ true =
    rw (extent_is bytes o h Strtab, places_are bytes o h) (are_places_forth names) in
    let distinct : are_distinct (names_read bytes) ≡ true = ap are_distinct (names_is bytes o h) ∙ distinct_forth names h.object.distinct in
    rw (entries_hold bytes o h, places, distinct) refl

names_hold : (bytes : List ℕ) (o : ObjectRecord) → FileOf bytes o → holds_names bytes ≡ true
unfolding holds_names
names_hold bytes o h =
    let names = names_of o.symbols in
    let same : bytes_eq (content bytes Strtab) (name_bytes (names_read bytes)) ≡ true =
    rw (held bytes o h Strtab, names_is bytes o h) ((bytes_eq-Decides (name_bytes names) (name_bytes names)).1 refl) in
    let texts = texts_forth names (recursion_from_All (λ n. Contains n 0 → ⊥) names h.object.named) (recursion_from_All IsUtf8 names h.typed.names) in
    rw (same, names_is bytes o h) texts

functions_are : (bytes : List ℕ) (o : ObjectRecord) → FileOf bytes o → functions_read bytes ≡ length o.sigs
unfolding functions_read
functions_are bytes o h =
    let t = o.target in
    let symtab = symbol_bytes t o.symbols in
    let size : length symtab ≡ (class_of t).st_entsize * suc (length o.symbols) = length-symbols t o.symbols ∙ ap (λ n. (class_of t).st_entsize * n) (add-one (length o.symbols)) in
    rw (held bytes o h Symtab, target_read bytes t (contents_of o) h.framed h.small)
    (functions_after t (length o.symbols) symtab size (head_is t o.symbols)
    ∙ rw (tail_is t o.symbols, ← length-entries_of 1 o.symbols, entries_forth t (entries_of 1 o.symbols) (entries_fit o h.object h.typed))
    (functions_of_entries 1 o.symbols ∙ sym h.object.counted))

gosig_is : (bytes : List ℕ) (o : ObjectRecord) → FileOf bytes o → gosig_read bytes ≡ Some (o.types, o.sigs)
unfolding gosig_read
gosig_is bytes o h =
    let words = gosig_words o.types o.sigs in
    let sigs = recursion_from_All (IsSig o.types) o.sigs h.object.sigs in
    let size = extent_is bytes o h Gosig ∙ length-numbers 4 words in
    let whole : extent_read bytes Gosig % 4 ≡ 0 = ap (λ n. n % 4) size ∙ whole_size 4 (length words) (omega arith) in
    let read : numbers 4 (extent_read bytes Gosig / 4) (content bytes Gosig) ≡ words =
    numbers_held 4 (extent_read bytes Gosig) words (content bytes Gosig) (omega arith) (gosig_fit o.types o.sigs h.object.types sigs) size (held bytes o h Gosig) in
    rw (eq-eqb (extent_read bytes Gosig % 4) 0 whole, read, functions_are bytes o h) (gosig_forth o.types o.sigs h.object.types sigs)

all_hold : (bytes : List ℕ) (o : ObjectRecord) → FileOf bytes o → (s : Section) → holds bytes s ≡ true
unfolding holds
all_hold bytes o h Null = refl
all_hold bytes o h Text = text_holds bytes o h
all_hold bytes o h Pool = pool_holds bytes o h
all_hold bytes o h Data = window_holds bytes o h
all_hold bytes o h Gosig = rw (gosig_is bytes o h) refl
all_hold bytes o h Symtab = symbols_hold bytes o h
all_hold bytes o h Strtab = names_hold bytes o h
all_hold bytes o h Shstrtab = ended_read bytes o.target (contents_of o) h.framed h.small

whole_is : (bytes : List ℕ) (o : ObjectRecord) → FileOf bytes o → whole_of bytes ≡ o
whole_is bytes o h =
    rw (
      target_read bytes o.target (contents_of o) h.framed h.small,
      text_is bytes o h,
      pool_is bytes o h,
      held bytes o h Data,
      gosig_is bytes o h,
      entries_is bytes o h,
      names_is bytes o h,
      symbols_of_entries 1 o.symbols,
    ) refl

long_enough : (t : Target) → (class_of t).e_ehsize ≤ 8 * (class_of t).e_shentsize
long_enough Arm = omega arith
long_enough Riscv64 = omega arith

no_fault : (bytes : List ℕ) (o : ObjectRecord) → FileOf bytes o → fault_of bytes ≡ None
unfolding fault_of
no_fault bytes o h =
    let t = o.target in
    let c = contents_of o in
    let whole = h.framed.whole in
    let room = long_enough t in
    let target = target_read bytes t c h.framed h.small in
    let long : nat_lt (length bytes) (class_of t).e_ehsize ≡ false = le-ltb (length bytes) (class_of t).e_ehsize (omega arith) in
    let ends : nat_lt (length bytes) (e_shoff t (sizes_in c) + 8 * (class_of t).e_shentsize) ≡ false =
    le-ltb (length bytes) (e_shoff t (sizes_in c) + 8 * (class_of t).e_shentsize) (omega arith) in
    let fit = all_fit bytes (λ s. and_from (is_placed bytes s) (holds bytes s) (placed bytes t c h.framed h.small s) (all_hold bytes o h s)) in
    rw (elf_read bytes t c h.framed, header_read bytes t c h.framed h.small, target, long, offset_is_read bytes t c h.framed h.small, ends, fit) refl

own_file : (o : ObjectRecord) → IsObject o → IsWide o → FileOf (file_of o) o
own_file o object typed = record {
  framed = framed_from (file_of o) o.target (contents_of o) (file_is o);
  small = subst (λ (z : Sizes). FitsAddress o.target (e_shoff o.target z)) (sizes_same o) object.offsets;
  object = object;
  typed = typed;
}

-- what is written holds the same fields, and is loaded as them, addresses and sizes of symbols modulo 2 ^ 32
pub written_holds : (o : ObjectRecord) → IsObject o → IsWide o → whole_of (file_of o) ≡ o
written_holds o object typed = whole_is (file_of o) o (own_file o object typed)

pub wide_loads : (o : ObjectRecord) → IsObject o → IsWide o → loaded (file_of o) ≡ Ok (narrowed o)
wide_loads o object typed =
    let image = image_whole (file_of o) ∙ ap narrowed (written_holds o object typed) in
    rw (no_fault (file_of o) o (own_file o object typed), image) refl

pub written_loads : (o : ObjectRecord) → IsObject o → IsTyped o → loaded (file_of o) ≡ Ok o
written_loads o object typed = subst (λ (x : ObjectRecord). loaded (file_of o) ≡ Ok x) (narrowed_same o typed) (wide_loads o object (wide_from o typed))
