-- What a file without a fault is loaded as is an object, and the file is that object's.
use Rattle.std.proofs.Common.{◌≡◌, ℕ, zero, suc, ◌+◌, ◌-◌, ◌*◌, ◌/◌, ◌%◌, ◌^◌, ◌<◌, ◌≤◌, ◌==◌, true, ◌&&◌, not, nat_lt, nat_le, List, [], ◌∷◌, length, take, drop, map, replicate, count_by, Option, None, Some, Ok, is_some, inl, inr, refl, sym, ap, subst, ◌∙◌, arith}
use Rattle.std.proofs.lemmas.List.{length-take-le, length-drop, take-append-drop, get_or_past}
use Rattle.std.proofs.lemmas.List.Elements.{All-from_recursion}
use Rattle.std.proofs.lemmas.Bool.{and_parts, cases_Bool, cases_lt, ltb-true, leb-true, eqb-true}
use Rattle.std.proofs.Math.Nat.{div-add-mod'}
use Rattle.std.specs.List.{All, AllByRecursion, list_all, flat_map, Contains}
use Rattle.std.specs.Str.{bytes_eq, is_utf8, IsUtf8}
use Rattle.std.specs.Cmp.Lexicographic.{same_text}
use Rattle.byteorder.specs.Endian.{little_number, little_bytes}
use Rattle.byteorder.specs.Numbers.{little_from-lt}
use Rattle.bk_ops.specs.declared.types.Target.{Target}
use Rattle.bk_ops.specs.declared.types.Target.TheVariants.{Arm, Riscv64}
use Rattle.bk_func.specs.Records.{SigRecord}
use Rattle.bk_elf.specs.declared.errors.LoadError.{LoadError}
use Rattle.bk_elf.specs.declared.tables.Section.{Section}
use Rattle.bk_elf.specs.declared.tables.Section.TheVariants.{Text, Pool, Data, Gosig, Symtab, Strtab}
use Rattle.bk_elf.specs.declared.layout.Sizes.{Sizes}
use Rattle.bk_elf.specs.declared.symbols.Entry.{Entry}
use Rattle.bk_elf.specs.Records.{SymbolRecord, ObjectRecord}
use Rattle.bk_elf.specs.Fields.{bytes_of, number_at}
use Rattle.bk_elf.specs.Tables.{class_of}
use Rattle.bk_elf.specs.Layout.{e_shoff}
use Rattle.bk_elf.specs.Lists.{is_rising, is_zero, has_zero, numbers}
use Rattle.bk_elf.specs.Object.{are_codes, IsSig, IsCode, name_places, IsObject, IsTyped, IsWide, FitsAddress, narrowed}
use Rattle.bk_elf.specs.Contents.{word_bytes, constant_bytes, gosig_words, names_of, name_bytes, entry_bytes, symbol_bytes, sizes_of}
use Rattle.bk_elf.specs.File.{file_of, IsFileOf}
use Rattle.bk_elf.specs.Loading.{target_of, sizes_read, offset_of, begin_read, extent_read, content, text_read, constants_read, functions_read, gosig_in, gosig_read, signatures_read, entry_bytes_read, entries_read, places_read, names_read, each_symbol, is_code, is_entry, holds_entries, holds_symbols, holds_names, holds, are_places, are_distinct, fault_of, image_of, answer, loaded}
use Rattle.bk_elf.proofs.Bytes.{AreBytes, bytes-drop, bytes-take}
use Rattle.bk_elf.proofs.Spelling.{numbers_back, numbers_fit, length-each}
use Rattle.bk_elf.proofs.Sigs.{gosig_back}
use Rattle.bk_elf.proofs.Entries.{IsSmall, CodeIf, spelled_entries, entries_back, entries_small, functions_after, entries_of, bytes_of_entries, functions_of_entries, entries_are, names_are, whole_symbols}
use Rattle.bk_elf.proofs.Whole.{whole_of, image_whole, narrow_object, narrow_typed}
use Rattle.bk_elf.proofs.NamePlaces.{names_back, distinct_back, texts_back}
use Rattle.bk_elf.proofs.Framing.{Contents, sizes_in, segments}
use Rattle.bk_elf.proofs.Segments.{flat}
use Rattle.bk_elf.proofs.Framed.{contents_of, sizes_same, file_is}
use Rattle.bk_elf.proofs.Standing.{framed_to}
use Rattle.bk_elf.proofs.Accepted.{zeros_are, Sound, sound_from, contents_read, section_holds, length-read, sizes_are, offset_is, sound_framed}

content_bytes : (bytes : List ℕ) → AreBytes bytes → (n m : ℕ) → AreBytes (take n (drop m bytes))
content_bytes bytes b n m = bytes-take (drop m bytes) n (bytes-drop bytes m b)

-- the bytes of the text
text_parts : (bytes : List ℕ) → holds bytes Text ≡ true → extent_read bytes Text % 4 ≡ 0
unfolding holds
text_parts bytes h = eqb-true (extent_read bytes Text % 4) 0 h

pool_parts : (bytes : List ℕ) → holds bytes Pool ≡ true
    → (extent_read bytes Pool % 8 ≡ 0) × (extent_read bytes Text + extent_read bytes Pool ≤ 16777216) × (is_rising (constants_read bytes) ≡ true)
unfolding holds
pool_parts bytes h =
    let whole = extent_read bytes Pool % 8 == 0 in
    let room = nat_le (extent_read bytes Text + extent_read bytes Pool) 16777216 in
    let a = and_parts (whole && room) (is_rising (constants_read bytes)) h in
    let b = and_parts whole room a.0 in
    (eqb-true (extent_read bytes Pool % 8) 0 b.0, leb-true (extent_read bytes Text + extent_read bytes Pool) 16777216 b.1, a.1)

window_parts : (bytes : List ℕ) → holds bytes Data ≡ true → (extent_read bytes Data % 8 ≡ 0) × (extent_read bytes Data ≤ 1048576)
unfolding holds
window_parts bytes h =
    let a = and_parts (extent_read bytes Data % 8 == 0) (nat_le (extent_read bytes Data) 1048576) h in
    (eqb-true (extent_read bytes Data % 8) 0 a.0, leb-true (extent_read bytes Data) 1048576 a.1)

whole_count : (size extent : ℕ) → extent % size ≡ 0 → extent ≡ size * (extent / size)
whole_count size extent whole = let e = div-add-mod' extent size in omega arith

numbers_spelled : (size extent : ℕ) (xs : List ℕ) → AreBytes xs → length xs ≡ extent → extent % size ≡ 0 → flat_map (little_bytes size) (numbers size (extent / size) xs) ≡ xs
numbers_spelled size extent xs b len whole = numbers_back size (extent / size) xs b (len ∙ whole_count size extent whole)

content_are : (bytes : List ℕ) → AreBytes bytes → (s : Section) → AreBytes (content bytes s)
unfolding content
content_are bytes b s = content_bytes bytes b (extent_read bytes s) (begin_read bytes s)

text_spelled : (bytes : List ℕ) → AreBytes bytes → Sound bytes → word_bytes (text_read bytes) ≡ content bytes Text
text_spelled bytes b h =
    numbers_spelled 4 (extent_read bytes Text) (content bytes Text) (content_are bytes b Text) (length-read bytes h Text) (text_parts bytes (section_holds bytes h Text))

pool_spelled : (bytes : List ℕ) → AreBytes bytes → Sound bytes → constant_bytes (constants_read bytes) ≡ content bytes Pool
pool_spelled bytes b h =
    numbers_spelled 8 (extent_read bytes Pool) (content bytes Pool) (content_are bytes b Pool) (length-read bytes h Pool) (pool_parts bytes (section_holds bytes h Pool)).0

-- the signatures
pub record Signed (bytes : List ℕ) : Type 0 where
  types : List ℕ
  sigs : List SigRecord
  read : gosig_read bytes ≡ Some (types, sigs)
  codes : are_codes types ≡ true
  all : AllByRecursion (IsSig types) sigs
  spelled : word_bytes (gosig_words types sigs) ≡ content bytes Gosig
  counted : length sigs ≡ functions_read bytes

some_of : {X : Type 0} (o : Option X) → is_some o ≡ true → (x : X) × (o ≡ Some x)
some_of None h = cc
some_of (Some x) h = (x, refl)

gosig_some : (bytes : List ℕ) → holds bytes Gosig ≡ true → (x : List ℕ × List SigRecord) × (gosig_read bytes ≡ Some x)
unfolding holds
gosig_some bytes h = some_of (gosig_read bytes) h

gosig_parts : (bytes types : List ℕ) (sigs : List SigRecord) → gosig_read bytes ≡ Some (types, sigs)
    → (extent_read bytes Gosig % 4 ≡ 0) × (gosig_in (functions_read bytes) (numbers 4 (extent_read bytes Gosig / 4) (content bytes Gosig)) ≡ Some (types, sigs))
unfolding gosig_read
gosig_parts bytes types sigs h = elim (cases_Bool (extent_read bytes Gosig % 4 == 0)) [
  | inl whole ↦ (eqb-true (extent_read bytes Gosig % 4) 0 whole, rw whole at h)
  | inr other ↦ let k = rw other at h in cc
]

pub gosig_signed : (bytes : List ℕ) → AreBytes bytes → Sound bytes → Signed bytes
gosig_signed bytes b h =
    let some = gosig_some bytes (section_holds bytes h Gosig) in
    let types = some.0.0 in
    let sigs = some.0.1 in
    let parts = gosig_parts bytes types sigs some.1 in
    let words = numbers 4 (extent_read bytes Gosig / 4) (content bytes Gosig) in
    let back = gosig_back (functions_read bytes) words types sigs parts.1 in
    let spelled = numbers_spelled 4 (extent_read bytes Gosig) (content bytes Gosig) (content_are bytes b Gosig) (length-read bytes h Gosig) parts.0 in
    record {
      types = types;
      sigs = sigs;
      read = some.1;
      codes = back.0;
      all = back.1;
      spelled = ap word_bytes (sym back.2) ∙ spelled;
      counted = back.3;
    }

some_size : (t : Target) → 0 < (class_of t).st_entsize
some_size Arm = omega arith
some_size Riscv64 = omega arith

-- a size that is a multiple and not 0 is that of one piece and some more
pieces_are : (size extent : ℕ) → extent % size ≡ 0 → 0 < extent → extent ≡ size * suc (extent / size - 1)
pieces_are size extent whole some =
    let all = whole_count size extent whole in
    elim (cases_lt 0 (extent / size)) [
      | inl above ↦ let e : suc (extent / size - 1) ≡ extent / size = omega arith in rw e all
      | inr none ↦
          let e : extent / size ≡ 0 = omega arith in
          let m : size * (extent / size) ≡ size * 0 = ap (λ k. size * k) e in
          absurd (omega arith)
    ]

-- what the section of symbols shows
pub record Tabled (bytes : List ℕ) : Type 0 where
  size : length (content bytes Symtab) ≡ entry_bytes_read bytes * suc (extent_read bytes Symtab / entry_bytes_read bytes - 1)
  zeros : is_zero (take (entry_bytes_read bytes) (content bytes Symtab)) ≡ true
  spelled : drop (entry_bytes_read bytes) (content bytes Symtab) ≡ spelled_entries (target_of bytes) (entries_read bytes)
  code : AllByRecursion (CodeIf (extent_read bytes Text)) (entries_read bytes)
  small : AllByRecursion (IsSmall (target_of bytes)) (entries_read bytes)
  functions : functions_read bytes ≡ count_by (λ e. e.func) (entries_read bytes)

pub record EntryParts (bytes : List ℕ) : Type 0 where
  whole : extent_read bytes Symtab % entry_bytes_read bytes ≡ 0
  some : 0 < extent_read bytes Symtab
  zeros : is_zero (take (entry_bytes_read bytes) (content bytes Symtab)) ≡ true
  all : list_all (λ b. b) (each_symbol bytes (is_entry (target_of bytes) (extent_read bytes Text))) ≡ true

entry_parts : (bytes : List ℕ) → holds_entries bytes ≡ true → EntryParts bytes
unfolding holds_entries
entry_parts bytes h =
    let A = extent_read bytes Symtab % entry_bytes_read bytes == 0 in
    let B = nat_lt 0 (extent_read bytes Symtab) in
    let Z = is_zero (take (entry_bytes_read bytes) (content bytes Symtab)) in
    let E = list_all (λ b. b) (each_symbol bytes (is_entry (target_of bytes) (extent_read bytes Text))) in
    let a = and_parts (A && B) (Z && E) h in
    let b = and_parts A B a.0 in
    let d = and_parts Z E a.1 in
    record {
      whole = eqb-true (extent_read bytes Symtab % entry_bytes_read bytes) 0 b.0;
      some = ltb-true 0 (extent_read bytes Symtab) b.1;
      zeros = d.0;
      all = d.1;
    }

symbol_parts : (bytes : List ℕ) → holds bytes Symtab ≡ true
    → (holds_entries bytes ≡ true) × (are_places (extent_read bytes Strtab) (places_read bytes) ≡ true) × (are_distinct (names_read bytes) ≡ true)
unfolding holds holds_symbols
symbol_parts bytes h =
    let P = are_places (extent_read bytes Strtab) (places_read bytes) in
    let D = are_distinct (names_read bytes) in
    let a = and_parts (holds_entries bytes) (P && D) h in
    let b = and_parts P D a.1 in
    (a.0, b.0, b.1)

tabled : (bytes : List ℕ) → AreBytes bytes → Sound bytes → Tabled bytes
unfolding entries_read functions_read
tabled bytes b h =
    let t = target_of bytes in
    let s = entry_bytes_read bytes in
    let C = content bytes Symtab in
    let n = extent_read bytes Symtab / s - 1 in
    let parts = entry_parts bytes (symbol_parts bytes (section_holds bytes h Symtab)).0 in
    let size : length C ≡ s * suc n = length-read bytes h Symtab ∙ pieces_are s (extent_read bytes Symtab) parts.whole parts.some in
    let more : s * suc n ≡ s + s * n = omega arith in
    let tail : length (drop s C) ≡ s * n = omega (arith, length-drop s C) in
    let tail_bytes = bytes-drop C s (content_are bytes b Symtab) in
    let back = entries_back t (extent_read bytes Text) n (drop s C) tail_bytes tail parts.all in
    record {
      size = size;
      zeros = parts.zeros;
      spelled = back.0;
      code = back.1;
      small = entries_small t n (drop s C) tail_bytes;
      functions = functions_after t n C size parts.zeros;
    }

places_are : (bytes : List ℕ) → Sound bytes → map (λ e. e.name) (entries_read bytes) ≡ name_places 1 (names_read bytes)
unfolding names_read
places_are bytes h =
    sym (names_back (content bytes Strtab) (extent_read bytes Strtab) (places_read bytes) (length-read bytes h Strtab) (symbol_parts bytes (section_holds bytes h Symtab)).1)

-- the symbols that are read
abbrev symbols_read : List ℕ → List SymbolRecord
symbols_read bytes = whole_symbols (entries_read bytes) (names_read bytes)

entries_same : (bytes : List ℕ) → Sound bytes → entries_of 1 (symbols_read bytes) ≡ entries_read bytes
entries_same bytes h = entries_are 1 (entries_read bytes) (names_read bytes) (places_are bytes h)

names_same : (bytes : List ℕ) → Sound bytes → names_of (symbols_read bytes) ≡ names_read bytes
names_same bytes h = names_are 1 (entries_read bytes) (names_read bytes) (places_are bytes h)

symtab_spelled : (bytes : List ℕ) → AreBytes bytes → Sound bytes → symbol_bytes (target_of bytes) (symbols_read bytes) ≡ content bytes Symtab
unfolding symbol_bytes
symtab_spelled bytes b h =
    let t = target_of bytes in
    let s = entry_bytes_read bytes in
    let C = content bytes Symtab in
    let r = tabled bytes b h in
    let more : s * suc (extent_read bytes Symtab / s - 1) ≡ s + s * (extent_read bytes Symtab / s - 1) = omega arith in
    let len = length-take-le s C (omega (arith, r.size)) in
    let front : replicate s 0 ≡ take s C = sym (zeros_are (take s C) r.zeros ∙ ap (λ n. replicate n 0) len) in
    let back : entry_bytes t 1 (symbols_read bytes) ≡ drop s C =
    bytes_of_entries t 1 (symbols_read bytes) ∙ ap (spelled_entries t) (entries_same bytes h) ∙ sym r.spelled in
    rw (front, back) (take-append-drop s C)

name_parts : (bytes : List ℕ) → holds bytes Strtab ≡ true
    → (content bytes Strtab ≡ name_bytes (names_read bytes)) × (list_all (λ n. not (has_zero n) && is_utf8 n) (names_read bytes) ≡ true)
unfolding holds holds_names
name_parts bytes h =
    let a = and_parts (bytes_eq (content bytes Strtab) (name_bytes (names_read bytes))) (list_all (λ n. not (has_zero n) && is_utf8 n) (names_read bytes)) h in
    (same_text (content bytes Strtab) (name_bytes (names_read bytes)) (sym a.0), a.1)

strtab_spelled : (bytes : List ℕ) → Sound bytes → name_bytes (names_of (symbols_read bytes)) ≡ content bytes Strtab
strtab_spelled bytes h = ap name_bytes (names_same bytes h) ∙ sym (name_parts bytes (section_holds bytes h Strtab)).0

-- the fields have the contents that are read
contents_same : (bytes : List ℕ) → AreBytes bytes → Sound bytes → contents_of (whole_of bytes) ≡ contents_read bytes
contents_same bytes b h =
    let r = gosig_signed bytes b h in
    let gosig : word_bytes (gosig_words (signatures_read bytes).0 (signatures_read bytes).1) ≡ content bytes Gosig = rw r.read r.spelled in
    rw (text_spelled bytes b h, pool_spelled bytes b h, gosig, symtab_spelled bytes b h, strtab_spelled bytes h) refl

-- and so the file is theirs
file_same : (bytes : List ℕ) → AreBytes bytes → Sound bytes → bytes ≡ file_of (whole_of bytes)
file_same bytes b h =
    let framed = framed_to bytes (target_of bytes) (contents_read bytes) (sound_framed bytes b h) in
    framed ∙ sym (ap (λ (c : Contents). flat (segments (target_of bytes) c)) (contents_same bytes b h)) ∙ sym (file_is (whole_of bytes))

code_back : (words address : ℕ) → is_code (4 * words) address ≡ true → IsCode words address
code_back words address h =
    let a = and_parts (address % 4 == 0) (nat_le 65536 address && nat_lt (address - 65536) (4 * words)) h in
    let b = and_parts (nat_le 65536 address) (nat_lt (address - 65536) (4 * words)) a.1 in
    let low = leb-true 65536 address b.0 in
    let high = ltb-true (address - 65536) (4 * words) b.1 in
    record { whole = eqb-true (address % 4) 0 a.0; low = low; high = omega arith }

code_symbols : (words place : ℕ) (ss : List SymbolRecord) → AllByRecursion (CodeIf (4 * words)) (entries_of place ss)
    → AllByRecursion (λ s. s.func ≡ true → IsCode words s.address) ss
code_symbols words place [] h = tt
code_symbols words place (s ∷ ss) h = ((λ f. code_back words s.address (h.0 f)), code_symbols words (place + length s.name + 1) ss h.1)

small_symbols : (t : Target) (place : ℕ) (ss : List SymbolRecord) → AllByRecursion (IsSmall t) (entries_of place ss) → AllByRecursion (λ s. FitsAddress t s.address × FitsAddress t s.size) ss
small_symbols t place [] h = tt
small_symbols t place (s ∷ ss) h = ((h.0.1, h.0.2), small_symbols t (place + length s.name + 1) ss h.1)

small_places : (t : Target) (place : ℕ) (ss : List SymbolRecord) → AllByRecursion (IsSmall t) (entries_of place ss) → AllByRecursion (λ n. n < 2 ^ 32) (name_places place (names_of ss))
small_places t place [] h = tt
small_places t place (s ∷ ss) h = (h.0.0, small_places t (place + length s.name + 1) ss h.1)

-- the entries of the symbols that are read, again
again : (bytes : List ℕ) → Sound bytes → (P : Entry → Type 0) → AllByRecursion P (entries_read bytes) → AllByRecursion P (entries_of 1 (symbols_read bytes))
again bytes h P all = let F : List Entry → Type 0 = AllByRecursion P in subst F (sym (entries_same bytes h)) all

text_count : (bytes : List ℕ) → Sound bytes → 4 * length (text_read bytes) ≡ extent_read bytes Text
text_count bytes h =
    let n = length-each (little_number 4) 4 (extent_read bytes Text / 4) (content bytes Text) in
    let e = whole_count 4 (extent_read bytes Text) (text_parts bytes (section_holds bytes h Text)) in
    ap (λ k. 4 * k) n ∙ sym e

pool_count : (bytes : List ℕ) → Sound bytes → 8 * length (constants_read bytes) ≡ extent_read bytes Pool
pool_count bytes h =
    let n = length-each (little_number 8) 8 (extent_read bytes Pool / 8) (content bytes Pool) in
    let e = whole_count 8 (extent_read bytes Pool) (pool_parts bytes (section_holds bytes h Pool)).0 in
    ap (λ k. 8 * k) n ∙ sym e

offset_small : (bytes : List ℕ) → AreBytes bytes → offset_of bytes < 256 ^ bytes_of (class_of (target_of bytes)).address
unfolding offset_of number_at
offset_small bytes b =
    little_from-lt 0 (bytes_of (class_of (target_of bytes)).address) (drop (class_of (target_of bytes)).e_shoff bytes) (bytes-drop bytes (class_of (target_of bytes)).e_shoff b)

-- what is read is an object
whole_object : (bytes : List ℕ) → AreBytes bytes → Sound bytes → IsObject (whole_of bytes)
whole_object bytes b h =
    let o = whole_of bytes in
    let t = target_of bytes in
    let ss = symbols_read bytes in
    let r = gosig_signed bytes b h in
    let s = tabled bytes b h in
    let text = text_count bytes h in
    let pool = pool_parts bytes (section_holds bytes h Pool) in
    let constants = pool_count bytes h in
    let window = window_parts bytes (section_holds bytes h Data) in
    let size = length-read bytes h Data in
    let names = names_same bytes h in
    let texts = texts_back (names_read bytes) (name_parts bytes (section_holds bytes h Strtab)).1 in
    let code : AllByRecursion (CodeIf (4 * length (text_read bytes))) (entries_read bytes) = rw text s.code in
    let sizes : sizes_of o ≡ sizes_read bytes = sizes_same o ∙ ap sizes_in (contents_same bytes b h) ∙ sizes_are bytes h in
    let offset : e_shoff t (sizes_of o) ≡ offset_of bytes = ap (λ (z : Sizes). e_shoff t z) sizes ∙ offset_is bytes h in
    record {
      code = omega (arith, pool.1, text, constants);
      pool = pool.2;
      window = omega (arith, window.1, size);
      whole = ap (λ n. n % 8) size ∙ window.0;
      types = rw r.read r.codes;
      sigs = rw r.read (All-from_recursion (IsSig r.types) r.sigs r.all);
      counted = rw r.read (r.counted ∙ s.functions ∙ ap (count_by (λ (e : Entry). e.func)) (sym (entries_same bytes h)) ∙ functions_of_entries 1 ss);
      placed = All-from_recursion (λ x. x.func ≡ true → IsCode (length (text_read bytes)) x.address) ss
          (code_symbols (length (text_read bytes)) 1 ss (again bytes h (CodeIf (4 * length (text_read bytes))) code));
      named = rw names (All-from_recursion (λ n. Contains n 0 → ⊥) (names_read bytes) texts.0);
      distinct = rw names (distinct_back (names_read bytes) (symbol_parts bytes (section_holds bytes h Symtab)).2);
      offsets = rw offset (offset_small bytes b);
      places = All-from_recursion (λ n. n < 2 ^ 32) (name_places 1 (names_of ss)) (small_places t 1 ss (again bytes h (IsSmall t) s.small));
    }

all_bytes : (xs : List ℕ) → AreBytes xs → All (λ n. n < 2 ^ 8) xs
all_bytes [] h k d lt = absurd (omega arith)
all_bytes (x ∷ xs) h zero d lt = h 0
all_bytes (x ∷ xs) h (suc k) d lt = all_bytes xs (λ i. h (suc i)) k d (omega arith)

bytes_all : (xs : List ℕ) → All (λ n. n < 2 ^ 8) xs → AreBytes xs
bytes_all xs h i = elim (cases_lt i (length xs)) [
  | inl inside ↦ h i 0 inside
  | inr past ↦ rw (get_or_past xs i 0 past) (omega arith)
]

whole_wide : (bytes : List ℕ) → AreBytes bytes → Sound bytes → IsWide (whole_of bytes)
whole_wide bytes b h =
    let t = target_of bytes in
    let ss = symbols_read bytes in
    let s = tabled bytes b h in
    let texts = texts_back (names_read bytes) (name_parts bytes (section_holds bytes h Strtab)).1 in
    record {
      text = All-from_recursion (λ n. n < 2 ^ 32) (text_read bytes) (numbers_fit 4 (extent_read bytes Text / 4) (content bytes Text) (content_are bytes b Text));
      pool = All-from_recursion (λ n. n < 2 ^ 64) (constants_read bytes) (numbers_fit 8 (extent_read bytes Pool / 8) (content bytes Pool) (content_are bytes b Pool));
      window = all_bytes (content bytes Data) (content_are bytes b Data);
      symbols = All-from_recursion (λ x. FitsAddress t x.address × FitsAddress t x.size) ss (small_symbols t 1 ss (again bytes h (IsSmall t) s.small));
      names = rw (names_same bytes h) (All-from_recursion IsUtf8 (names_read bytes) texts.1);
    }

answered : (f : Option LoadError) (image o : ObjectRecord) → answer f image ≡ Ok o → (f ≡ None) × (image ≡ o)
answered None image o h = (refl, cc)
answered (Some e) image o h = cc

-- a file that is loaded is the file of an object that it is loaded as, addresses and sizes of symbols modulo 2 ^ 32
pub loaded_is : (bytes : List ℕ) (o : ObjectRecord) → All (λ b. b < 2 ^ 8) bytes → loaded bytes ≡ Ok o → IsObject o × IsTyped o × IsFileOf bytes o
loaded_is bytes o all h =
    let b = bytes_all bytes all in
    let parts = answered (fault_of bytes) (image_of bytes) o h in
    let sound = sound_from bytes parts.0 in
    let object = whole_object bytes b sound in
    let wide = whole_wide bytes b sound in
    let same : o ≡ narrowed (whole_of bytes) = sym parts.1 ∙ image_whole bytes in (
      subst IsObject (sym same) (narrow_object (whole_of bytes) object),
      subst IsTyped (sym same) (narrow_typed (whole_of bytes) wide),
      record { whole = whole_of bytes; object = object; wide = wide; file = file_same bytes b sound; same = same },
    )
