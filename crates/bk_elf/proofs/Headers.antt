-- What reading headers tells: how many bytes they take, and what stands in a header without a fault.
use Rattle.std.proofs.Common.{◌≡◌, ℕ, ◌+◌, ◌-◌, ◌*◌, ◌<◌, ◌≤◌, true, List, [], ◌∷◌, ◌++◌, ◌^◌, Bool, inl, inr, length, replicate, Option, Some, None, refl, arith, IfSome}
use Rattle.std.proofs.lemmas.Bool.Decides.{eqb_tells}
use Rattle.bk_ops.specs.declared.types.Target.{Target}
use Rattle.bk_ops.specs.declared.types.Target.TheVariants.{Arm, Riscv64}
use Rattle.bk_elf.specs.declared.fields.Width.TheVariants.{Byte, Half, Word}
use Rattle.bk_elf.specs.declared.fields.Field.{Field}
use Rattle.bk_elf.specs.declared.tables.Section.{Section}
use Rattle.bk_elf.specs.declared.tables.Section.TheVariants.{Null, Text, Pool, Data, Gosig, Symtab, Strtab, Shstrtab}
use Rattle.bk_elf.specs.Fields.{field, bytes_of, number_at, extent, first_fault}
use Rattle.bk_elf.specs.Tables.{class_of, number_of, address_field, file_header, program_header, section_header, symbol_entry}
use Rattle.bk_elf.specs.Loading.{target_of, offset_of, headers_size, fitting_offset, header_fault, is_loaded}

-- the headers take the bytes that the header tells
pub extent-file_header : (t : Target) (n : ℕ) → 4 + extent (file_header t n) ≡ (class_of t).e_ehsize
unfolding file_header
extent-file_header Arm n = refl
extent-file_header Riscv64 n = refl

pub extent-program_header : (t : Target) (s : Section) (o z : ℕ) → extent (program_header t s o z) ≡ (class_of t).e_phentsize
unfolding program_header
extent-program_header Arm s o z = refl
extent-program_header Riscv64 s o z = refl

pub extent-section_header : (t : Target) (s : Section) (o z : ℕ) → extent (section_header t s o z) ≡ (class_of t).e_shentsize
unfolding section_header
extent-section_header Arm s o z = refl
extent-section_header Riscv64 s o z = refl

pub extent-symbol_entry : (t : Target) (n : ℕ) (func : Bool) (a z : ℕ) → extent (symbol_entry t n func a z) ≡ (class_of t).st_entsize
unfolding symbol_entry
extent-symbol_entry Arm n func a z = refl
extent-symbol_entry Riscv64 n func a z = refl

-- there are eight section headers
pub section_room : (s : Section) (n : ℕ) → number_of s * n + n ≤ 8 * n
section_room Null n = omega arith
section_room Text n = omega arith
section_room Pool n = omega arith
section_room Data n = omega arith
section_room Gosig n = omega arith
section_room Symtab n = omega arith
section_room Strtab n = omega arith
section_room Shstrtab n = omega arith

-- the size lies in its section header
pub size_room : (t : Target) → (class_of t).sh_size + bytes_of (class_of t).address ≤ (class_of t).e_shentsize
size_room Arm = omega arith
size_room Riscv64 = omega arith

-- the program headers end before as many bytes as the section headers take
pub program_room : (t : Target) (s : Section) → is_loaded s ≡ true
    → (class_of t).e_ehsize + (number_of s - 1) * (class_of t).e_phentsize + (class_of t).e_phentsize ≤ 8 * (class_of t).e_shentsize
program_room Arm Text h = omega arith
program_room Arm Pool h = omega arith
program_room Arm Data h = omega arith
program_room Arm Null h = cc
program_room Arm Gosig h = cc
program_room Arm Symtab h = cc
program_room Arm Strtab h = cc
program_room Arm Shstrtab h = cc
program_room Riscv64 Text h = omega arith
program_room Riscv64 Pool h = omega arith
program_room Riscv64 Data h = omega arith
program_room Riscv64 Null h = cc
program_room Riscv64 Gosig h = cc
program_room Riscv64 Symtab h = cc
program_room Riscv64 Strtab h = cc
program_room Riscv64 Shstrtab h = cc

some_within : (o : Option ℕ) (m n : ℕ) → m ≤ n → IfSome o (λ p. p ≤ m) → IfSome o (λ p. p ≤ n)
some_within None m n le h = tt
some_within (Some p) m n le h = omega arith

some_below : (o : Option ℕ) (m n : ℕ) → m < n → IfSome o (λ p. p ≤ m) → IfSome o (λ p. p < n)
some_below None m n le h = tt
some_below (Some p) m n le h = omega arith

pub header_size : (t : Target) (n : ℕ) → 4 + extent (file_header t n) < 2 ^ 32
header_size Arm n = let e = extent-file_header Arm n in omega arith
header_size Riscv64 n = let e = extent-file_header Riscv64 n in omega arith

-- a fault stands at one of the fields
pub fault_within : (bytes : List ℕ) (place : ℕ) (fs : List Field) → IfSome (first_fault bytes place fs) (λ p. p ≤ place + extent fs)
unfolding first_fault
fault_within bytes place [] = tt
fault_within bytes place (f ∷ fs) = elim (eqb_tells (number_at bytes place (bytes_of f.width)) f.number) [
  | inl same ↦
      let rest = fault_within bytes (place + bytes_of f.width) fs in
      rw same.0 (some_within (first_fault bytes (place + bytes_of f.width) fs) (place + bytes_of f.width + extent fs) (place + (bytes_of f.width + extent fs)) (omega arith) rest)
  | inr other ↦ rw other.0 (omega arith)
]

-- fields without a fault read as their numbers
pub reads_field : (bytes : List ℕ) (place : ℕ) (before : List Field) (f : Field) (after : List Field) → first_fault bytes place (before ++ f ∷ after) ≡ None
    → number_at bytes (place + extent before) (bytes_of f.width) ≡ f.number
unfolding first_fault
reads_field bytes place [] f after h = elim (eqb_tells (number_at bytes place (bytes_of f.width)) f.number) [
  | inl same ↦ let e : place + 0 ≡ place = omega arith in rw e same.1
  | inr other ↦ let k = rw other.0 at h in cc
]
reads_field bytes place (g ∷ before) f after h = elim (eqb_tells (number_at bytes place (bytes_of g.width)) g.number) [
  | inl same ↦
      let k = rw same.0 at h in
      let e : place + (bytes_of g.width + extent before) ≡ place + bytes_of g.width + extent before = omega arith in
      rw e (reads_field bytes (place + bytes_of g.width) before f after k)
  | inr other ↦ let k = rw other.0 at h in cc
]

-- the fields of a header before the offset of the section headers
abbrev before_offset : Target → List Field
before_offset t =
    field Byte (class_of t).ei_class ∷ field Byte 1 ∷ field Byte 1 ∷ (replicate 9 (field Byte 0) ++ (
    field Half 2 ∷ field Half (class_of t).e_machine ∷ field Word 1 ∷ address_field t 0 ∷ address_field t (class_of t).e_ehsize ∷ []))

-- and those after it
abbrev after_offset : Target → List Field
after_offset t =
    field Word (class_of t).e_flags ∷ field Half (class_of t).e_ehsize ∷ field Half (class_of t).e_phentsize
    ∷ field Half 3 ∷ field Half (class_of t).e_shentsize ∷ field Half 8 ∷ field Half 7 ∷ []

pub offset_read : (t : Target) (bytes : List ℕ) (n : ℕ) → first_fault bytes 4 (file_header t n) ≡ None
    → number_at bytes (class_of t).e_shoff (bytes_of (class_of t).address) ≡ n
unfolding file_header
offset_read Arm bytes n h = reads_field bytes 4 (before_offset Arm) (address_field Arm n) (after_offset Arm) h
offset_read Riscv64 bytes n h = reads_field bytes 4 (before_offset Riscv64) (address_field Riscv64 n) (after_offset Riscv64) h

-- a header without a fault tells an offset that fits
pub offset_fits : (bytes : List ℕ) → header_fault bytes ≡ None → offset_of bytes ≡ fitting_offset bytes
unfolding header_fault offset_of
offset_fits bytes h = offset_read (target_of bytes) bytes (fitting_offset bytes) h

-- which leaves no bytes after the section headers
pub offset_reaches : (bytes : List ℕ) → header_fault bytes ≡ None → length bytes ≤ offset_of bytes + headers_size bytes
offset_reaches bytes h = let e = offset_fits bytes h in omega arith

pub header_small : (t : Target) (bytes : List ℕ) (n : ℕ) → IfSome (first_fault bytes 4 (file_header t n)) (λ p. p < 2 ^ 32)
header_small t bytes n = some_below (first_fault bytes 4 (file_header t n)) (4 + extent (file_header t n)) (2 ^ 32) (header_size t n) (fault_within bytes 4 (file_header t n))

-- the place of a fault in the header
pub header_within : (bytes : List ℕ) → IfSome (header_fault bytes) (λ p. p < 2 ^ 32)
unfolding header_fault
header_within bytes = header_small (target_of bytes) bytes (fitting_offset bytes)
