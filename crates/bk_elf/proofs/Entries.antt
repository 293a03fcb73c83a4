-- Symbols and their bytes.
use Rattle.std.proofs.Common.{◌≡◌, ℕ, zero, suc, ◌+◌, ◌*◌, ◌/◌, ◌^◌, ◌<◌, ◌≤◌, ◌==◌, Bool, true, false, ◌||◌, not, cond, is_none, List, [], ◌∷◌, ◌++◌, length, map, take, drop, count_by, slice_index, zero-add, Option, None, Some, refl, sym, ap, ◌∙◌, arith}
use Rattle.std.proofs.lemmas.List.{take_at, drop_at, take-append-drop, length-drop, get_or-drop, get_or-take}
use Rattle.std.proofs.lemmas.Bool.{and_parts, eqb-true}
use Rattle.std.specs.List.{AllByRecursion, list_all, flat_map}
use Rattle.std.proofs.lemmas.List.Sums.{sum_by-cons}
use Rattle.byteorder.specs.Numbers.{little_from-lt}
use Rattle.bk_ops.specs.declared.types.Target.{Target}
use Rattle.bk_ops.specs.declared.types.Target.TheVariants.{Arm, Riscv64}
use Rattle.bk_elf.specs.declared.fields.Width.TheVariants.{Byte, Half, Word, Xword}
use Rattle.bk_elf.specs.declared.fields.Field.{Field}
use Rattle.bk_elf.specs.declared.symbols.Entry.{Entry}
use Rattle.bk_elf.specs.Records.{SymbolRecord}
use Rattle.bk_elf.specs.Fields.{field, bytes_of, number_at, extent, spelled, first_fault}
use Rattle.bk_elf.specs.Tables.{class_of, info_of, place_of, symbol_entry}
use Rattle.bk_elf.specs.Lists.{is_zero, each}
use Rattle.bk_elf.specs.Contents.{names_of, entry_bytes}
use Rattle.bk_elf.specs.Object.{name_places, FitsAddress, narrow}
use Rattle.bk_elf.specs.Loading.{functions_in, symbols_of, is_function, entry_at, is_code, is_entry}
use Rattle.bk_elf.proofs.Bytes.{AreBytes, bytes-drop, length-spelled, fields_read, fields_back}
use Rattle.bk_elf.proofs.Headers.{extent-symbol_entry, reads_field}
use Rattle.bk_elf.proofs.Spelling.{count_is}
use Rattle.bk_elf.proofs.Fitting.{fits-symbol_entry}

-- the fields of a symbol that reads so
abbrev pub entry_fields : Target → Entry → List Field
entry_fields t e = symbol_entry t e.name e.func e.address e.size

abbrev pub IsSmall : Target → Entry → Type 0
IsSmall t e = (e.name < 2 ^ 32) × FitsAddress t e.address × FitsAddress t e.size

function_is : (func : Bool) → (info_of func == 18) ≡ func
function_is true = refl
function_is false = refl

-- what is read where no field of a symbol is at fault
entry_reads : (t : Target) (xs : List ℕ) (e : Entry) → first_fault xs 0 (entry_fields t e) ≡ None → entry_at t xs ≡ e
unfolding symbol_entry entry_at
entry_reads Arm xs e none =
    let f = field Word e.name in
    let g = field Word e.address in
    let h = field Word e.size in
    let name : number_at xs 0 4 ≡ e.name = reads_field xs 0 [] f _ none in
    let address : number_at xs 4 4 ≡ e.address = reads_field xs 0 (f ∷ []) g _ none in
    let size : number_at xs 8 4 ≡ e.size = reads_field xs 0 (f ∷ g ∷ []) h _ none in
    let info : number_at xs 12 1 ≡ info_of e.func = reads_field xs 0 (f ∷ g ∷ h ∷ []) (field Byte (info_of e.func)) _ none in
    rw (name, address, size, info, function_is e.func) refl
entry_reads Riscv64 xs e none =
    let f = field Word e.name in
    let i = field Byte (info_of e.func) in
    let o = field Byte 0 in
    let p = field Half (place_of e.func) in
    let g = field Xword e.address in
    let h = field Xword e.size in
    let name : number_at xs 0 4 ≡ e.name = reads_field xs 0 [] f _ none in
    let info : number_at xs 4 1 ≡ info_of e.func = reads_field xs 0 (f ∷ []) i _ none in
    let address : number_at xs 8 8 ≡ e.address = reads_field xs 0 (f ∷ i ∷ o ∷ p ∷ []) g _ none in
    let size : number_at xs 16 8 ≡ e.size = reads_field xs 0 (f ∷ i ∷ o ∷ p ∷ g ∷ []) h _ none in
    rw (name, address, size, info, function_is e.func) refl

no_fault : (t : Target) (e : Entry) (rest : List ℕ) → IsSmall t e → first_fault (spelled (entry_fields t e) ++ rest) 0 (entry_fields t e) ≡ None
no_fault t e rest small =
    fields_read (spelled (entry_fields t e) ++ rest) 0 (entry_fields t e) (fits-symbol_entry t e.name e.func e.address e.size small.0 small.1 small.2)
    (take_at (spelled (entry_fields t e)) rest (extent (entry_fields t e)) (length-spelled (entry_fields t e)))

-- a symbol is read back from its bytes
entry_forth : (t : Target) (e : Entry) (rest : List ℕ) → IsSmall t e → entry_at t (spelled (entry_fields t e) ++ rest) ≡ e
entry_forth t e rest small = entry_reads t (spelled (entry_fields t e) ++ rest) e (no_fault t e rest small)

-- a function's address is that of code
abbrev pub CodeIf : ℕ → Entry → Type 0
CodeIf size e = e.func ≡ true → is_code size e.address ≡ true

where_true : (a b : Bool) → (a ≡ true → b ≡ true) → (not a || b) ≡ true
where_true true b h = h refl
where_true false b h = refl

is_entry_forth : (t : Target) (size : ℕ) (e : Entry) (rest : List ℕ) → IsSmall t e → CodeIf size e → is_entry t size (spelled (entry_fields t e) ++ rest) ≡ true
unfolding is_entry
is_entry_forth t size e rest small code =
    rw (entry_forth t e rest small, no_fault t e rest small) (where_true e.func (is_code size e.address) code)

pub length-fields : (t : Target) (e : Entry) → length (spelled (entry_fields t e)) ≡ (class_of t).st_entsize
length-fields t e = length-spelled (entry_fields t e) ∙ extent-symbol_entry t e.name e.func e.address e.size

-- the bytes of symbols that read so
abbrev pub spelled_entries : Target → List Entry → List ℕ
spelled_entries t es = flat_map (λ e. spelled (entry_fields t e)) es

pub entries_forth : (t : Target) (es : List Entry) → AllByRecursion (IsSmall t) es → each (entry_at t) (class_of t).st_entsize (length es) (spelled_entries t es) ≡ es
unfolding each
entries_forth t [] small = refl
entries_forth t (e ∷ es) small =
    rw (
      entry_forth t e (spelled_entries t es) small.0,
      drop_at (spelled (entry_fields t e)) (spelled_entries t es) (class_of t).st_entsize (length-fields t e),
      entries_forth t es small.1,
    ) refl

pub are_entries_forth : (t : Target) (size : ℕ) (es : List Entry) → AllByRecursion (IsSmall t) es → AllByRecursion (CodeIf size) es
    → list_all (λ b. b) (each (is_entry t size) (class_of t).st_entsize (length es) (spelled_entries t es)) ≡ true
unfolding each
are_entries_forth t size [] small code = refl
are_entries_forth t size (e ∷ es) small code =
    rw (is_entry_forth t size e (spelled_entries t es) small.0 code.0, drop_at (spelled (entry_fields t e)) (spelled_entries t es) (class_of t).st_entsize (length-fields t e))
    (are_entries_forth t size es small.1 code.1)

some_none : (o : Option ℕ) → is_none o ≡ true → o ≡ None
some_none None h = refl
some_none (Some x) h = cc

where_not : (a b : Bool) → (not a || b) ≡ true → a ≡ true → b ≡ true
where_not true b h e = h
where_not false b h e = cc

-- bytes that pass as a symbol are those of the symbol that they read as
is_entry_back : (t : Target) (size : ℕ) (xs : List ℕ) → AreBytes xs → (class_of t).st_entsize ≤ length xs → is_entry t size xs ≡ true
    → (take (class_of t).st_entsize xs ≡ spelled (entry_fields t (entry_at t xs))) × CodeIf size (entry_at t xs)
unfolding is_entry
is_entry_back t size xs h room is =
    let e = entry_at t xs in
    let fault = first_fault xs 0 (entry_fields t e) in
    let parts = and_parts (is_none fault) (not e.func || is_code size e.address) is in
    let extent_is = extent-symbol_entry t e.name e.func e.address e.size in
    let back = fields_back xs 0 (entry_fields t e) h (omega arith) (some_none fault parts.0) in (
      rw extent_is at back,
      where_not e.func (is_code size e.address) parts.1,
    )

pub entries_back : (t : Target) (size n : ℕ) (xs : List ℕ) → AreBytes xs → length xs ≡ (class_of t).st_entsize * n
    → list_all (λ b. b) (each (is_entry t size) (class_of t).st_entsize n xs) ≡ true
    → (xs ≡ spelled_entries t (each (entry_at t) (class_of t).st_entsize n xs)) × AllByRecursion (CodeIf size) (each (entry_at t) (class_of t).st_entsize n xs)
unfolding each
entries_back t size zero [] h e all = (refl, tt)
entries_back t size zero (x ∷ xs) h e all = absurd (omega arith)
entries_back t size (suc n) xs h e all =
    let s = (class_of t).st_entsize in
    let parts = and_parts (is_entry t size xs) (list_all (λ b. b) (each (is_entry t size) s n (drop s xs))) all in
    let more : s * suc n ≡ s + s * n = omega arith in
    let first = is_entry_back t size xs h (omega arith) parts.0 in
    let rest = entries_back t size n (drop s xs) (bytes-drop xs s h) (omega (arith, length-drop s xs)) parts.1 in (
      sym (take-append-drop s xs) ∙ ap (λ ys. ys ++ drop s xs) first.0 ∙ ap (λ ys. spelled (entry_fields t (entry_at t xs)) ++ ys) rest.0,
      (first.1, rest.1),
    )

small_read : (t : Target) (xs : List ℕ) → AreBytes xs → IsSmall t (entry_at t xs)
unfolding entry_at number_at
small_read t xs h = (
  little_from-lt 0 4 (drop 0 xs) (bytes-drop xs 0 h),
  little_from-lt 0 (bytes_of (class_of t).address) (drop (class_of t).st_value xs) (bytes-drop xs (class_of t).st_value h),
  little_from-lt 0 (bytes_of (class_of t).address) (drop (class_of t).st_size xs) (bytes-drop xs (class_of t).st_size h),
)

pub entries_small : (t : Target) (n : ℕ) (xs : List ℕ) → AreBytes xs → AllByRecursion (IsSmall t) (each (entry_at t) (class_of t).st_entsize n xs)
unfolding each
entries_small t zero xs h = tt
entries_small t (suc n) xs h =
    (small_read t xs h, entries_small t n (drop (class_of t).st_entsize xs) (bytes-drop xs (class_of t).st_entsize h))

func_is : (t : Target) (xs : List ℕ) → (entry_at t xs).func ≡ is_function t xs
unfolding entry_at
func_is t xs = refl

-- as many functions as entries that are such
functions_count : (t : Target) (n : ℕ) (xs : List ℕ) → count_by (λ f. f) (each (is_function t) (class_of t).st_entsize n xs)
    ≡ count_by (λ e. e.func) (each (entry_at t) (class_of t).st_entsize n xs)
unfolding each
functions_count t zero xs = refl
functions_count t (suc n) xs =
    let s = (class_of t).st_entsize in
    let fs = each (is_function t) s n (drop s xs) in
    let es = each (entry_at t) s n (drop s xs) in
    sum_by-cons (λ f. cond f 1 0) (is_function t xs) fs ∙ rw (functions_count t n (drop s xs), ← func_is t xs) refl
    ∙ sym (sum_by-cons (λ (e : Entry). cond e.func 1 0) (entry_at t xs) es)

zero_at : (xs : List ℕ) (i : ℕ) → is_zero xs ≡ true → slice_index xs i ≡ 0
zero_at [] i h = refl
zero_at (x ∷ xs) zero h = eqb-true x 0 (and_parts (x == 0) (is_zero xs) h).0
zero_at (x ∷ xs) (suc i) h = zero_at xs i (and_parts (x == 0) (is_zero xs) h).1

info_within : (t : Target) → (class_of t).st_info < (class_of t).st_entsize
info_within Arm = omega arith
info_within Riscv64 = omega arith

zero_no_function : (t : Target) (xs : List ℕ) → is_zero (take (class_of t).st_entsize xs) ≡ true → is_function t xs ≡ false
unfolding number_at
zero_no_function t xs h =
    let i = (class_of t).st_info in
    let s = (class_of t).st_entsize in
    let at = get_or-drop i xs 0 0 in
    let same : i + 0 ≡ i = omega arith in
    let inside = get_or-take s xs i 0 (info_within t) in
    let none = zero_at (take s xs) i h in
    let byte : slice_index (drop i xs) 0 ≡ 0 = at ∙ rw same (sym inside ∙ none) in
    rw byte refl

-- the first symbol being 0, the functions are among the others
pub functions_after : (t : Target) (n : ℕ) (symtab : List ℕ) → length symtab ≡ (class_of t).st_entsize * suc n → is_zero (take (class_of t).st_entsize symtab) ≡ true
    → functions_in t symtab ≡ count_by (λ e. e.func) (each (entry_at t) (class_of t).st_entsize n (drop (class_of t).st_entsize symtab))
unfolding each
functions_after t n symtab size none =
    let s = (class_of t).st_entsize in
    let within = info_within t in
    let count : length symtab / s ≡ suc n = ap (λ m. m / s) size ∙ count_is s (suc n) (omega arith) in
    rw (count, zero_no_function t symtab none)
    (sum_by-cons (λ f. cond f 1 0) false (each (is_function t) s n (drop s symtab)) ∙ zero-add (count_by (λ f. f) (each (is_function t) s n (drop s symtab)))
    ∙ functions_count t n (drop s symtab))

-- the entry of a symbol whose name begins at the place
abbrev pub entry_of : ℕ → SymbolRecord → Entry
entry_of place s = record { name = place; func = s.func; address = s.address; size = s.size }

abbrev pub entries_of : ℕ → List SymbolRecord → List Entry
entries_of place [] = []
entries_of place (s ∷ ss) = entry_of place s ∷ entries_of (place + length s.name + 1) ss

pub bytes_of_entries : (t : Target) (place : ℕ) (ss : List SymbolRecord) → entry_bytes t place ss ≡ spelled_entries t (entries_of place ss)
unfolding entry_bytes
bytes_of_entries t place [] = refl
bytes_of_entries t place (s ∷ ss) =
    ap (λ xs. spelled (symbol_entry t place s.func s.address s.size) ++ xs) (bytes_of_entries t (place + length s.name + 1) ss)

pub length-entries_of : (place : ℕ) (ss : List SymbolRecord) → length (entries_of place ss) ≡ length ss
length-entries_of place [] = refl
length-entries_of place (s ∷ ss) = ap suc (length-entries_of (place + length s.name + 1) ss)

pub places_of_entries : (place : ℕ) (ss : List SymbolRecord) → map (λ e. e.name) (entries_of place ss) ≡ name_places place (names_of ss)
places_of_entries place [] = refl
places_of_entries place (s ∷ ss) = ap (λ xs. place ∷ xs) (places_of_entries (place + length s.name + 1) ss)

-- symbols with their names, their addresses and sizes whole
abbrev pub whole_symbols : List Entry → List (List ℕ) → List SymbolRecord
whole_symbols [] names = []
whole_symbols (e ∷ es) [] = []
whole_symbols (e ∷ es) (n ∷ ns) = record { name = n; func = e.func; address = e.address; size = e.size } ∷ whole_symbols es ns

pub narrow_symbols : (es : List Entry) (names : List (List ℕ)) → symbols_of es names ≡ map narrow (whole_symbols es names)
narrow_symbols [] names = refl
narrow_symbols (e ∷ es) [] = refl
narrow_symbols (e ∷ es) (n ∷ ns) = ap (λ ss. narrow (record { name = n; func = e.func; address = e.address; size = e.size }) ∷ ss) (narrow_symbols es ns)

pub symbols_of_entries : (place : ℕ) (ss : List SymbolRecord) → whole_symbols (entries_of place ss) (names_of ss) ≡ ss
symbols_of_entries place [] = refl
symbols_of_entries place (s ∷ ss) = ap (λ xs. s ∷ xs) (symbols_of_entries (place + length s.name + 1) ss)

pub functions_of_entries : (place : ℕ) (ss : List SymbolRecord) → count_by (λ e. e.func) (entries_of place ss) ≡ count_by (λ s. s.func) ss
functions_of_entries place [] = refl
functions_of_entries place (s ∷ ss) =
    let rest = functions_of_entries (place + length s.name + 1) ss in
    sum_by-cons (λ (e : Entry). cond e.func 1 0) (entry_of place s) (entries_of (place + length s.name + 1) ss)
    ∙ ap (λ n. cond s.func 1 0 + n) rest ∙ sym (sum_by-cons (λ (x : SymbolRecord). cond x.func 1 0) s ss)

-- entries whose names stand at the places of the names
pub entries_are : (place : ℕ) (es : List Entry) (names : List (List ℕ)) → map (λ e. e.name) es ≡ name_places place names → entries_of place (whole_symbols es names) ≡ es
entries_are place [] names h = refl
entries_are place (e ∷ es) [] h = cc
entries_are place (e ∷ es) (n ∷ ns) h =
    let first : e.name ≡ place = cc in
    let rest : map (λ x. x.name) es ≡ name_places (place + length n + 1) ns = cc in
    rw (entries_are (place + length n + 1) es ns rest, ← first) refl

pub names_are : (place : ℕ) (es : List Entry) (names : List (List ℕ)) → map (λ e. e.name) es ≡ name_places place names → names_of (whole_symbols es names) ≡ names
names_are place [] [] h = refl
names_are place [] (n ∷ ns) h = cc
names_are place (e ∷ es) [] h = cc
names_are place (e ∷ es) (n ∷ ns) h =
    let rest : map (λ x. x.name) es ≡ name_places (place + length n + 1) ns = cc in
    ap (λ xs. n ∷ xs) (names_are (place + length n + 1) es ns rest)
