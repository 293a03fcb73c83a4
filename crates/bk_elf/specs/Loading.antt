-- What a file is loaded as, or its first fault.
use Rattle.std.specs.Prelude.{◌≡◌, ◌≤◌, ◌⊎◌, IsTrue, ℕ, zero, suc, ◌+◌, ◌-◌, ◌*◌, ◌/◌, ◌%◌, ◌^◌, ◌==◌, Bool, true, false, nat_lt, nat_le, ◌&&◌, ◌||◌, not, if◌then◌else◌, max, List, [], ◌∷◌, length, take, drop, map, find, count_by, slice_index, slice_range, slice_get, Option, Some, None, is_none, is_some, unwrap_or, option_map, Result, Ok, Err}
use Rattle.std.specs.List.{list_all}
use Rattle.std.specs.Set.{distinct_count}
use Rattle.std.specs.Str.{is_utf8, bytes_eq}
use Rattle.bk_ops.specs.declared.types.Target.{Target}
use Rattle.bk_ops.specs.declared.types.Target.TheVariants.{Arm, Riscv64}
use Rattle.bk_ops.specs.declared.types.Ty.{Ty}
use Rattle.bk_ops.specs.declared.types.Ty.TheVariants as ty
use Rattle.bk_ops.specs.Types.{code_of}
use Rattle.bk_func.specs.Records.{SigRecord}
use Rattle.bk_elf.specs.declared.errors.LoadError.{LoadError}
use Rattle.bk_elf.specs.declared.errors.LoadError.TheVariants.{NotElf, BadHeader, BadSection, Truncated, Memory}
use Rattle.bk_elf.specs.declared.tables.Section.{Section}
use Rattle.bk_elf.specs.declared.tables.Section.TheVariants.{Null, Text, Pool, Data, Gosig, Symtab, Strtab, Shstrtab}
use Rattle.bk_elf.specs.declared.layout.Sizes.{Sizes}
use Rattle.bk_elf.specs.declared.symbols.Entry.{Entry}
use Rattle.bk_elf.specs.Fields.{bytes_of, number_at, first_fault}
use Rattle.bk_elf.specs.Tables.{magic, section_names, class_of, sections, number_of, file_header, program_header, section_header, symbol_entry}
use Rattle.bk_elf.specs.Layout.{aligned, size_of, layout_of, begin_in, before, e_shoff}
use Rattle.bk_elf.specs.Lists.{rises_from, is_rising, is_zero, has_zero, each, numbers, ◌>>=◌, option_cons}
use Rattle.bk_elf.specs.Records.{SymbolRecord, ObjectRecord}
use Rattle.bk_elf.specs.Contents.{name_bytes}
use Rattle.bk_elf.specs.Object.{are_codes}

-- the class byte tells the target
unfoldable pub target_of : List ℕ → Target
target_of bytes = if slice_index bytes 4 == 2 then Riscv64 else Arm

-- a number of the size of an address
abbrev pub address_at : List ℕ → ℕ → ℕ
address_at bytes place = number_at bytes place (bytes_of (class_of (target_of bytes)).address)

-- the bytes of the section headers
abbrev pub headers_size : List ℕ → ℕ
headers_size bytes = 8 * (class_of (target_of bytes)).e_shentsize

-- where the section headers begin by the header
unfoldable pub offset_of : List ℕ → ℕ
offset_of bytes = address_at bytes (class_of (target_of bytes)).e_shoff

-- a multiple of 8 so far on that section headers there leave no bytes after them
abbrev pub fitting_offset : List ℕ → ℕ
fitting_offset bytes = max (aligned (length bytes - headers_size bytes)) (offset_of bytes / 8 * 8)

unfoldable pub header_fault : List ℕ → Option ℕ
header_fault bytes = first_fault bytes 4 (file_header (target_of bytes) (fitting_offset bytes))

-- where a section's header begins, and where its size stands in it
abbrev pub header_place : List ℕ → Section → ℕ
header_place bytes s = offset_of bytes + number_of s * (class_of (target_of bytes)).e_shentsize

abbrev pub size_read : List ℕ → Section → ℕ
size_read bytes s = address_at bytes (header_place bytes s + (class_of (target_of bytes)).sh_size)

-- the sizes that the section headers tell
unfoldable pub sizes_read : List ℕ → Sizes
sizes_read bytes = record {
  text = size_read bytes Text;
  pool = size_read bytes Pool;
  window = size_read bytes Data;
  gosig = size_read bytes Gosig;
  symtab = size_read bytes Symtab;
  strtab = size_read bytes Strtab;
}

-- where a section begins and how many bytes it has, by these sizes
abbrev pub begin_read : List ℕ → Section → ℕ
begin_read bytes s = begin_in (layout_of (target_of bytes) (sizes_read bytes)) s

abbrev pub extent_read : List ℕ → Section → ℕ
extent_read bytes s = size_of (sizes_read bytes) s

abbrev pub before_read : List ℕ → Section → ℕ
before_read bytes s = before (target_of bytes) (sizes_read bytes) s

-- the bytes of a section that are in the file
unfoldable pub content : List ℕ → Section → List ℕ
content bytes s = take (extent_read bytes s) (drop (begin_read bytes s) bytes)

-- a section that is loaded has a program header
abbrev pub is_loaded : Section → Bool
is_loaded Null = false
is_loaded Text = true
is_loaded Pool = true
is_loaded Data = true
is_loaded Gosig = false
is_loaded Symtab = false
is_loaded Strtab = false
is_loaded Shstrtab = false

abbrev pub program_place : List ℕ → Section → ℕ
program_place bytes s = (class_of (target_of bytes)).e_ehsize + (number_of s - 1) * (class_of (target_of bytes)).e_phentsize

-- whether a section header and a program header for these places read as they must
unfoldable pub has_header : List ℕ → Section → ℕ → ℕ → Bool
has_header bytes s begin size = is_none (first_fault bytes (header_place bytes s) (section_header (target_of bytes) s begin size))

unfoldable pub has_program_header : List ℕ → Section → ℕ → ℕ → Bool
has_program_header bytes s begin size = is_none (first_fault bytes (program_place bytes s) (program_header (target_of bytes) s begin size))

-- whether the headers of a section do
unfoldable pub is_described : List ℕ → Section → Bool
is_described bytes s =
    has_header bytes s (begin_read bytes s) (extent_read bytes s)
    && (not (is_loaded s) || has_program_header bytes s (begin_read bytes s) (extent_read bytes s))

-- whether besides the section lies in the file and what is left free before it is 0
unfoldable pub is_placed : List ℕ → Section → Bool
is_placed bytes s =
    is_described bytes s && (nat_le (begin_read bytes s + extent_read bytes s) (length bytes)
    && is_zero (slice_range bytes (before_read bytes s) (begin_read bytes s)))

-- the types in the order of their codes
abbrev pub coded_types : List Ty
coded_types =
    ty.Bool ∷ ty.Int8 ∷ ty.Uint8 ∷ ty.Int16 ∷ ty.Uint16 ∷ ty.Int32 ∷ ty.Uint32 ∷ ty.Int64 ∷ ty.Uint64 ∷ ty.Int ∷ ty.Uint ∷ ty.Uintptr ∷ ty.Ptr ∷ []

abbrev pub has_code : Option ℕ → ℕ → Bool
has_code None code = false
has_code (Some c) code = code == c

abbrev pub type_of_code : ℕ → Option Ty
type_of_code code = find (λ ty. has_code (code_of ty) code) coded_types

-- the type whose code stands at the place
abbrev pub type_in : List ℕ → ℕ → Option Ty
type_in codes place = slice_get codes place >>= type_of_code

-- the types whose codes stand at the places
unfoldable pub types_at : List ℕ → List ℕ → Option (List Ty)
types_at codes [] = Some []
types_at codes (p ∷ ps) = option_cons (type_in codes p) (types_at codes ps)

abbrev pub signed : List ℕ → Option (List Ty) → Option (List Ty) → Option (SigRecord × List ℕ)
signed rest None results = None
signed rest (Some args) None = None
signed rest (Some args) (Some results) = Some (record { args = args; results = results }, rest)

-- the signature that the words begin with, and the words after it
unfoldable pub sig_in : List ℕ → List ℕ → Option (SigRecord × List ℕ)
sig_in codes [] = None
sig_in codes (args ∷ []) = None
sig_in codes (args ∷ results ∷ ws) =
    if nat_le (args + results) 64 && nat_le (args + results) (length ws)
    then signed (drop (args + results) ws) (types_at codes (take args ws)) (types_at codes (take results (drop args ws)))
    else None

-- so many signatures that the words spell, and nothing else
unfoldable pub sigs_in : List ℕ → ℕ → List ℕ → Option (List SigRecord)
sigs_in codes zero [] = Some []
sigs_in codes zero (w ∷ ws) = None
sigs_in codes (suc count) ws = sig_in codes ws >>= λ x. option_cons (Some x.0) (sigs_in codes count x.1)

-- the codes and the signatures that the words spell
unfoldable pub gosig_in : ℕ → List ℕ → Option (List ℕ × List SigRecord)
gosig_in functions [] = None
gosig_in functions (count ∷ ws) =
    if nat_le count (length ws) && are_codes (take count ws)
    then option_map (λ sigs. (take count ws, sigs)) (sigs_in (take count ws) functions (drop count ws))
    else None

-- whether a symbol's info is that of a function
abbrev pub is_function : Target → List ℕ → Bool
is_function t bytes = number_at bytes (class_of t).st_info 1 == 18

-- the symbol that the bytes begin with
unfoldable pub entry_at : Target → List ℕ → Entry
entry_at t bytes = record {
  name = number_at bytes 0 4;
  func = is_function t bytes;
  address = number_at bytes (class_of t).st_value (bytes_of (class_of t).address);
  size = number_at bytes (class_of t).st_size (bytes_of (class_of t).address);
}

-- a word of a text of so many bytes stands at the address
abbrev pub is_code : ℕ → ℕ → Bool
is_code size address = address % 4 == 0 && (nat_le 65536 address && nat_lt (address - 65536) size)

-- whether the bytes begin with a function's symbol or a variable's
unfoldable pub is_entry : Target → ℕ → List ℕ → Bool
is_entry t size bytes =
    is_none (first_fault bytes 0 (symbol_entry t (entry_at t bytes).name (entry_at t bytes).func (entry_at t bytes).address (entry_at t bytes).size))
    && (not (entry_at t bytes).func || is_code size (entry_at t bytes).address)

abbrev pub entry_bytes_read : List ℕ → ℕ
entry_bytes_read bytes = (class_of (target_of bytes)).st_entsize

-- how many of the symbols are functions'
abbrev pub functions_in : Target → List ℕ → ℕ
functions_in t symtab =
    count_by (λ f. f) (each (is_function t) (class_of t).st_entsize (length symtab / (class_of t).st_entsize) symtab)

-- the count of function symbols, as far as the section lies in the file
unfoldable pub functions_read : List ℕ → ℕ
functions_read bytes = functions_in (target_of bytes) (content bytes Symtab)

-- f at each symbol after the first
abbrev pub each_symbol : {X : Type 0} → List ℕ → (List ℕ → X) → List X
each_symbol bytes f =
    each f (entry_bytes_read bytes) (extent_read bytes Symtab / entry_bytes_read bytes - 1) (drop (entry_bytes_read bytes) (content bytes Symtab))

unfoldable pub entries_read : List ℕ → List Entry
entries_read bytes = each_symbol bytes (entry_at (target_of bytes))

-- the first name begins at 1, each other one after the one before it, and all below the size
abbrev pub begin_at_one : List ℕ → Bool
begin_at_one [] = true
begin_at_one (place ∷ places) = place == 1 && rises_from 1 places

abbrev pub are_places : ℕ → List ℕ → Bool
are_places size places = begin_at_one places && list_all (λ p. nat_lt p size) places

-- where a name ends that these follow
abbrev pub name_end : ℕ → List ℕ → ℕ
name_end size [] = size - 1
name_end size (next ∷ places) = next - 1

-- the names that begin at the places, each ended by the byte before the next one, the last by the last byte
unfoldable pub names_at : List ℕ → ℕ → List ℕ → List (List ℕ)
names_at bytes size [] = []
names_at bytes size (place ∷ places) = slice_range bytes place (name_end size places) ∷ names_at bytes size places

-- the bytes after a name and the 0 that ends it, where they begin so
unfoldable pub after_name : List ℕ → List ℕ → Option (List ℕ)
after_name bytes name =
    if nat_lt (length name) (length bytes) && (slice_index bytes (length name) == 0 && bytes_eq (take (length name) bytes) name)
    then Some (drop (length name + 1) bytes)
    else None

abbrev pub places_read : List ℕ → List ℕ
places_read bytes = map (λ e. e.name) (entries_read bytes)

unfoldable pub names_read : List ℕ → List (List ℕ)
names_read bytes = names_at (content bytes Strtab) (extent_read bytes Strtab) (places_read bytes)

abbrev pub are_distinct : List (List ℕ) → Bool
are_distinct names = distinct_count bytes_eq names == length names

-- whether the section's size is that of symbols, the first of them is 0, and the others are functions' and variables'
unfoldable pub holds_entries : List ℕ → Bool
holds_entries bytes =
    (extent_read bytes Symtab % entry_bytes_read bytes == 0 && nat_lt 0 (extent_read bytes Symtab))
    && (is_zero (take (entry_bytes_read bytes) (content bytes Symtab)) && list_all (λ b. b) (each_symbol bytes (is_entry (target_of bytes) (extent_read bytes Text))))

-- whether besides the names begin one after the other and differ
unfoldable pub holds_symbols : List ℕ → Bool
holds_symbols bytes = holds_entries bytes && (are_places (extent_read bytes Strtab) (places_read bytes) && are_distinct (names_read bytes))

-- whether the section is a 0 and the names, each a text without a 0 and ended by a 0
unfoldable pub holds_names : List ℕ → Bool
holds_names bytes =
    bytes_eq (content bytes Strtab) (name_bytes (names_read bytes))
    && list_all (λ n. not (has_zero n) && is_utf8 n) (names_read bytes)

-- the codes and signatures of the section, where its size is that of words
unfoldable pub gosig_read : List ℕ → Option (List ℕ × List SigRecord)
gosig_read bytes =
    if extent_read bytes Gosig % 4 == 0
    then gosig_in (functions_read bytes) (numbers 4 (extent_read bytes Gosig / 4) (content bytes Gosig))
    else None

abbrev pub constants_read : List ℕ → List ℕ
constants_read bytes = numbers 8 (extent_read bytes Pool / 8) (content bytes Pool)

-- whether the section headers begin right after the names of the sections, with zeros between them
abbrev pub are_headers_next : List ℕ → Bool
are_headers_next bytes =
    e_shoff (target_of bytes) (sizes_read bytes) == offset_of bytes
    && is_zero (slice_range bytes (begin_read bytes Shstrtab + 52) (e_shoff (target_of bytes) (sizes_read bytes)))

-- whether a section holds what it must
unfoldable pub holds : List ℕ → Section → Bool
holds bytes Null = true
holds bytes Text = extent_read bytes Text % 4 == 0
holds bytes Pool =
    (extent_read bytes Pool % 8 == 0 && nat_le (extent_read bytes Text + extent_read bytes Pool) 16777216) && is_rising (constants_read bytes)
holds bytes Data = extent_read bytes Data % 8 == 0 && nat_le (extent_read bytes Data) 1048576
holds bytes Gosig = is_some (gosig_read bytes)
holds bytes Symtab = holds_symbols bytes
holds bytes Strtab = holds_names bytes
holds bytes Shstrtab = bytes_eq (content bytes Shstrtab) section_names && are_headers_next bytes

abbrev pub fits : List ℕ → Section → Bool
fits bytes s = is_placed bytes s && holds bytes s

-- whether all sections before one fit
unfoldable pub fit_before : List ℕ → Section → Bool
fit_before bytes s = list_all (fits bytes) (take (number_of s) sections)

abbrev pub at_section : Option Section → Option LoadError
at_section None = None
at_section (Some s) = Some (BadSection (number_of s))

-- the first section at fault
unfoldable pub section_fault : List ℕ → Option LoadError
section_fault bytes = at_section (find (λ s. not (fits bytes s)) sections)

-- a file that ends before its section headers do, or has a section at fault
abbrev pub body_fault : List ℕ → Option LoadError
body_fault bytes = if nat_lt (length bytes) (offset_of bytes + headers_size bytes) then Some Truncated else section_fault bytes

abbrev pub at_header : Option ℕ → Option LoadError → Option LoadError
at_header None more = more
at_header (Some place) more = Some (BadHeader place)

-- the first fault of a file
unfoldable pub fault_of : List ℕ → Option LoadError
fault_of bytes =
    if not (bytes_eq (take 4 bytes) magic) then Some NotElf
    else if nat_lt (length bytes) (class_of (target_of bytes)).e_ehsize then Some Truncated
    else at_header (header_fault bytes) (body_fault bytes)

-- a place behind what stands before a section, where all sections before it fit
pub record IsAt (bytes : List ℕ) (s : Section) (place : ℕ) : Type 0 where
  pub after : place ≡ before_read bytes s
  pub within : place ≤ length bytes
  pub fit : IsTrue (fit_before bytes s)

-- why a file with a header in order is not loaded
abbrev pub IsCause : List ℕ → LoadError → Type 0
IsCause bytes e = (e ≡ Memory) ⊎ (section_fault bytes ≡ Some e)

-- why a section of signatures is not read: want of memory, or that none is spelled
abbrev pub Fails : {X : Type 0} → Option X → LoadError → Type 0
Fails o e = (e ≡ Memory) ⊎ ((e ≡ BadSection 4) × (o ≡ None))

-- why a section of symbols is not read: want of memory, or that it does not hold what it must
abbrev pub Refuses : Bool → LoadError → Type 0
Refuses b e = (e ≡ Memory) ⊎ ((e ≡ BadSection 5) × (b ≡ false))

abbrev pub text_read : List ℕ → List ℕ
text_read bytes = numbers 4 (extent_read bytes Text / 4) (content bytes Text)

-- a symbol as an image holds it: its address and size modulo 2 ^ 32
abbrev pub symbol_of : Entry → List ℕ → SymbolRecord
symbol_of e name = record { name = name; func = e.func; address = e.address % 2 ^ 32; size = e.size % 2 ^ 32 }

-- symbols with their names
abbrev pub symbols_of : List Entry → List (List ℕ) → List SymbolRecord
symbols_of [] names = []
symbols_of (e ∷ es) [] = []
symbols_of (e ∷ es) (n ∷ ns) = symbol_of e n ∷ symbols_of es ns

abbrev pub signatures_read : List ℕ → List ℕ × List SigRecord
signatures_read bytes = unwrap_or (gosig_read bytes) ([], [])

-- the fields that the file holds
unfoldable pub image_of : List ℕ → ObjectRecord
image_of bytes = record {
  target = target_of bytes;
  text = text_read bytes;
  pool = constants_read bytes;
  window = content bytes Data;
  types = (signatures_read bytes).0;
  sigs = (signatures_read bytes).1;
  symbols = symbols_of (entries_read bytes) (names_read bytes);
}

-- what a file is loaded as
abbrev pub answer : Option LoadError → ObjectRecord → Result ObjectRecord LoadError
answer None image = Ok image
answer (Some e) image = Err e

abbrev pub loaded : List ℕ → Result ObjectRecord LoadError
loaded bytes = answer (fault_of bytes) (image_of bytes)
