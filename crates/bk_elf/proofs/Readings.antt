-- What is read in a framed file.
use Rattle.std.proofs.Common.{◌≡◌, ℕ, ◌+◌, ◌-◌, ◌*◌, ◌/◌, ◌≤◌, true, max, List, [], ◌∷◌, take, drop, slice_index, None, refl, arith}
use Rattle.std.proofs.lemmas.List.{get_or-drop}
use Rattle.std.specs.Str.{bytes_eq}
use Rattle.bk_ops.specs.declared.types.Target.{Target}
use Rattle.bk_ops.specs.declared.types.Target.TheVariants.{Arm, Riscv64}
use Rattle.bk_elf.specs.declared.fields.Width.TheVariants.{Byte, Word}
use Rattle.bk_elf.specs.declared.fields.Field.{Field}
use Rattle.bk_elf.specs.declared.tables.Section.{Section}
use Rattle.bk_elf.specs.declared.tables.Section.TheVariants.{Null, Text, Pool, Data, Gosig, Symtab, Strtab, Shstrtab}
use Rattle.bk_elf.specs.declared.layout.Sizes.{Sizes}
use Rattle.bk_elf.specs.Fields.{field, bytes_of, number_at, extent, spelled, first_fault}
use Rattle.bk_elf.specs.Tables.{class_of, magic, number_of, row_of, address_field, file_header, program_header, section_header}
use Rattle.bk_elf.specs.Layout.{aligned, size_of, layout_of, begin_in, e_shoff, shstrtab_begin}
use Rattle.bk_elf.specs.Loading.{target_of, offset_of, fitting_offset, header_fault, size_read, sizes_read, is_loaded}
use Rattle.bk_elf.proofs.Bytes.{length-spelled, fields_read}
use Rattle.bk_elf.proofs.Headers.{reads_field, offset_read}
use Rattle.bk_elf.specs.Object.{FitsAddress}
use Rattle.bk_elf.proofs.Fitting.{fits-file_header, fits-program_header, fits-section_header}
use Rattle.bk_elf.proofs.Segments.{Stands}
use Rattle.bk_elf.proofs.Framing.{Contents, sizes_in, segment}
use Rattle.bk_elf.proofs.Standing.{Framed, begin_of}

pub stands_fields : (bytes : List ℕ) (place : ℕ) (fs : List Field) → Stands bytes (segment place (spelled fs)) → take (extent fs) (drop place bytes) ≡ spelled fs
stands_fields bytes place fs h = rw (← length-spelled fs) h

-- sections lie before the section headers
pub section_below : (t : Target) (z : Sizes) (s : Section) → begin_in (layout_of t z) s + size_of z s ≤ e_shoff t z
section_below t z Null = omega arith
section_below t z Text = omega arith
section_below t z Pool = omega arith
section_below t z Data = omega arith
section_below t z Gosig = omega arith
section_below t z Symtab = omega arith
section_below t z Strtab = omega arith
section_below t z Shstrtab = omega arith

pub elf_read : (bytes : List ℕ) (t : Target) (c : Contents) → Framed bytes t c → bytes_eq (take 4 bytes) magic ≡ true
elf_read bytes t c f = rw f.magic_bytes refl

header_sound : (bytes : List ℕ) (t : Target) (c : Contents) → Framed bytes t c → FitsAddress t (e_shoff t (sizes_in c))
    → first_fault bytes 4 (file_header t (e_shoff t (sizes_in c))) ≡ None
header_sound bytes t c f small =
    let n = e_shoff t (sizes_in c) in
    fields_read bytes 4 (file_header t n) (fits-file_header t n small) (stands_fields bytes 4 (file_header t n) f.header)

reads_first : (bytes : List ℕ) (place : ℕ) (f : Field) (fs : List Field) → first_fault bytes place (f ∷ fs) ≡ None
    → number_at bytes place (bytes_of f.width) ≡ f.number
reads_first bytes place f fs none =
    let e : place + 0 ≡ place = omega arith in
    rw e at (reads_field bytes place [] f fs none)

class_read : (bytes : List ℕ) (t : Target) (n : ℕ) → first_fault bytes 4 (file_header t n) ≡ None → slice_index bytes 4 ≡ (class_of t).ei_class
unfolding file_header number_at
class_read bytes t n none =
    let read = reads_first bytes 4 (field Byte (class_of t).ei_class) _ none in
    let at = get_or-drop 4 bytes 0 0 in
    omega arith

-- the target is read
pub target_read : (bytes : List ℕ) (t : Target) (c : Contents) → Framed bytes t c → FitsAddress t (e_shoff t (sizes_in c)) → target_of bytes ≡ t
unfolding target_of
target_read bytes Arm c f small = rw (class_read bytes Arm (e_shoff Arm (sizes_in c)) (header_sound bytes Arm c f small)) refl
target_read bytes Riscv64 c f small = rw (class_read bytes Riscv64 (e_shoff Riscv64 (sizes_in c)) (header_sound bytes Riscv64 c f small)) refl

-- and so is the offset of the section headers
pub offset_is_read : (bytes : List ℕ) (t : Target) (c : Contents) → Framed bytes t c → FitsAddress t (e_shoff t (sizes_in c)) → offset_of bytes ≡ e_shoff t (sizes_in c)
unfolding offset_of
offset_is_read bytes t c f small =
    rw (target_read bytes t c f small) (offset_read t bytes (e_shoff t (sizes_in c)) (header_sound bytes t c f small))

fitting_is : (x size : ℕ) → max (aligned (aligned x + size - size)) (aligned x / 8 * 8) ≡ aligned x
fitting_is x size = omega arith

-- no field of the header is at fault
pub header_read : (bytes : List ℕ) (t : Target) (c : Contents) → Framed bytes t c → FitsAddress t (e_shoff t (sizes_in c)) → header_fault bytes ≡ None
unfolding header_fault
header_read bytes t c f small =
    let z = sizes_in c in
    let target = target_read bytes t c f small in
    let fits : fitting_offset bytes ≡ e_shoff t z =
    rw (target, f.whole, offset_is_read bytes t c f small) (fitting_is (shstrtab_begin t z + 52) (8 * (class_of t).e_shentsize)) in
    rw (fits, target) (header_sound bytes t c f small)

pub section_sound : (bytes : List ℕ) (t : Target) (c : Contents) → Framed bytes t c → FitsAddress t (e_shoff t (sizes_in c)) → (s : Section)
    → first_fault bytes (e_shoff t (sizes_in c) + number_of s * (class_of t).e_shentsize) (section_header t s (begin_of t c s) (size_of (sizes_in c) s)) ≡ None
section_sound bytes t c f small s =
    let z = sizes_in c in
    let below = section_below t z s in
    let fs = section_header t s (begin_of t c s) (size_of z s) in
    let place = e_shoff t z + number_of s * (class_of t).e_shentsize in
    fields_read bytes place fs (fits-section_header t s (begin_of t c s) (size_of z s) (omega arith) (omega arith)) (stands_fields bytes place fs (f.section s))

pub program_sound : (bytes : List ℕ) (t : Target) (c : Contents) → Framed bytes t c → FitsAddress t (e_shoff t (sizes_in c)) → (s : Section) → is_loaded s ≡ true
    → first_fault bytes ((class_of t).e_ehsize + (number_of s - 1) * (class_of t).e_phentsize) (program_header t s (begin_of t c s) (size_of (sizes_in c) s)) ≡ None
program_sound bytes t c f small s loaded =
    let z = sizes_in c in
    let below = section_below t z s in
    let fs = program_header t s (begin_of t c s) (size_of z s) in
    let place = (class_of t).e_ehsize + (number_of s - 1) * (class_of t).e_phentsize in
    fields_read bytes place fs (fits-program_header t s (begin_of t c s) (size_of z s) (omega arith) (omega arith)) (stands_fields bytes place fs (f.program s loaded))

-- the fields of a section header before the size
abbrev before_size : Target → Section → ℕ → List Field
before_size t s offset =
    field Word (row_of s).sh_name ∷ field Word (row_of s).sh_type ∷ address_field t (row_of s).sh_flags ∷ address_field t (row_of s).sh_addr ∷ address_field t offset ∷ []

size_of_header : (t : Target) (bytes : List ℕ) (place : ℕ) (s : Section) (offset size : ℕ) → first_fault bytes place (section_header t s offset size) ≡ None
    → number_at bytes (place + (class_of t).sh_size) (bytes_of (class_of t).address) ≡ size
unfolding section_header
size_of_header Arm bytes place s offset size none = reads_field bytes place (before_size Arm s offset) (address_field Arm size) _ none
size_of_header Riscv64 bytes place s offset size none = reads_field bytes place (before_size Riscv64 s offset) (address_field Riscv64 size) _ none

one_size_read : (bytes : List ℕ) (t : Target) (c : Contents) → Framed bytes t c → FitsAddress t (e_shoff t (sizes_in c)) → (s : Section)
    → size_read bytes s ≡ size_of (sizes_in c) s
one_size_read bytes t c f small s =
    let z = sizes_in c in
    let place = e_shoff t z + number_of s * (class_of t).e_shentsize in
    rw (target_read bytes t c f small, offset_is_read bytes t c f small)
    (size_of_header t bytes place s (begin_of t c s) (size_of z s) (section_sound bytes t c f small s))

-- the sizes are read
pub sizes_are_read : (bytes : List ℕ) (t : Target) (c : Contents) → Framed bytes t c → FitsAddress t (e_shoff t (sizes_in c)) → sizes_read bytes ≡ sizes_in c
unfolding sizes_read
sizes_are_read bytes t c f small =
    let one = one_size_read bytes t c f small in
    rw (one Text, one Pool, one Data, one Gosig, one Symtab, one Strtab) refl
