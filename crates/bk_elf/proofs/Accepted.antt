-- A file without a fault is framed by what it holds.
use Rattle.std.proofs.Common.{◌≡◌, ℕ, ◌+◌, ◌-◌, ◌*◌, ◌≤◌, ◌==◌, Bool, true, false, ◌&&◌, ◌||◌, not, nat_lt, nat_le, is_none, List, [], ◌∷◌, length, take, drop, replicate, slice_range, Option, None, Some, inl, inr, refl, sym, ap, subst, ◌∙◌, arith}
use Rattle.std.proofs.lemmas.List.{length-take-le, length-drop, length-replicate}
use Rattle.std.proofs.lemmas.Bool.{and_parts, cases_Bool, ltb-false, eqb-true}
use Rattle.std.specs.Str.{bytes_eq}
use Rattle.std.specs.Cmp.Lexicographic.{same_text}
use Rattle.bk_ops.specs.declared.types.Target.{Target}
use Rattle.bk_elf.specs.declared.errors.LoadError.{LoadError}
use Rattle.bk_elf.specs.declared.tables.Section.{Section}
use Rattle.bk_elf.specs.declared.tables.Section.TheVariants.{Null, Text, Pool, Data, Gosig, Symtab, Strtab, Shstrtab}
use Rattle.bk_elf.specs.declared.layout.Sizes.{Sizes}
use Rattle.bk_elf.specs.declared.fields.Field.{Field}
use Rattle.bk_elf.specs.Fields.{extent, spelled, first_fault}
use Rattle.bk_elf.specs.Tables.{class_of, magic, section_names, file_header, program_header, section_header}
use Rattle.bk_elf.specs.Layout.{aligned, layout_of, begin_in, before, e_shoff, shstrtab_begin}
use Rattle.bk_elf.specs.Lists.{is_zero}
use Rattle.bk_elf.specs.Loading.{target_of, sizes_read, offset_of, headers_size, header_fault, at_header, body_fault, begin_read, extent_read, before_read, header_place, program_place, content, is_loaded, has_header, has_program_header, is_described, is_placed, are_headers_next, holds, fault_of, section_fault}
use Rattle.bk_elf.proofs.Bytes.{AreBytes, length-spelled, fields_back}
use Rattle.bk_elf.proofs.Headers.{extent-file_header, extent-program_header, extent-section_header, offset_fits, offset_reaches, section_room, program_room}
use Rattle.bk_elf.proofs.Places.{placed_within, length-content}
use Rattle.bk_elf.proofs.Segments.{Stands}
use Rattle.bk_elf.proofs.Framing.{Contents, sizes_in, segment, gap_segment, program_segment, header_segment}
use Rattle.bk_elf.proofs.Standing.{Framed, held_in}
use Rattle.bk_elf.proofs.Faults.{fit_each}

-- what a file without a fault shows
pub record Sound (bytes : List ℕ) : Type 0 where
  pub elf : bytes_eq (take 4 bytes) magic ≡ true
  pub long : (class_of (target_of bytes)).e_ehsize ≤ length bytes
  pub header : header_fault bytes ≡ None
  pub reaches : offset_of bytes + headers_size bytes ≤ length bytes
  pub sections : section_fault bytes ≡ None

body_sound : (bytes : List ℕ) → body_fault bytes ≡ None → (offset_of bytes + headers_size bytes ≤ length bytes) × (section_fault bytes ≡ None)
body_sound bytes h = elim (cases_Bool (nat_lt (length bytes) (offset_of bytes + headers_size bytes))) [
  | inl short ↦ let k = rw short at h in cc
  | inr long ↦ (ltb-false (length bytes) (offset_of bytes + headers_size bytes) long, rw long at h)
]

header_sound : (o : Option ℕ) (more : Option LoadError) → at_header o more ≡ None → (o ≡ None) × (more ≡ None)
header_sound None more h = (refl, h)
header_sound (Some place) more h = cc

pub sound_from : (bytes : List ℕ) → fault_of bytes ≡ None → Sound bytes
unfolding fault_of
sound_from bytes h = elim (cases_Bool (bytes_eq (take 4 bytes) magic)) [
  | inr other ↦ let k = rw other at h in cc
  | inl elf ↦
      let k = rw elf at h in
      elim (cases_Bool (nat_lt (length bytes) (class_of (target_of bytes)).e_ehsize)) [
        | inl short ↦ let l = rw short at k in cc
        | inr long ↦
            let parts = header_sound (header_fault bytes) (body_fault bytes) (rw long at k) in
            let body = body_sound bytes parts.1 in
            record {
              elf = elf;
              long = ltb-false (length bytes) (class_of (target_of bytes)).e_ehsize long;
              header = parts.0;
              reaches = body.0;
              sections = body.1;
            }
      ]
]

-- what the sections hold
abbrev pub contents_read : List ℕ → Contents
contents_read bytes = record {
  text = content bytes Text;
  pool = content bytes Pool;
  window = content bytes Data;
  gosig = content bytes Gosig;
  symtab = content bytes Symtab;
  strtab = content bytes Strtab;
}

section_placed : (bytes : List ℕ) → Sound bytes → (s : Section) → is_placed bytes s ≡ true
section_placed bytes h s = (and_parts (is_placed bytes s) (holds bytes s) (fit_each bytes h.sections s)).0

pub section_holds : (bytes : List ℕ) → Sound bytes → (s : Section) → holds bytes s ≡ true
section_holds bytes h s = (and_parts (is_placed bytes s) (holds bytes s) (fit_each bytes h.sections s)).1

pub length-read : (bytes : List ℕ) → Sound bytes → (s : Section) → length (content bytes s) ≡ extent_read bytes s
length-read bytes h s = length-content bytes s (section_placed bytes h s)

pub sizes_are : (bytes : List ℕ) → Sound bytes → sizes_in (contents_read bytes) ≡ sizes_read bytes
sizes_are bytes h =
    let l = length-read bytes h in
    rw (l Text, l Pool, l Data, l Gosig, l Symtab, l Strtab) refl

names_end : (bytes : List ℕ) → holds bytes Shstrtab ≡ true → (content bytes Shstrtab ≡ section_names) × (e_shoff (target_of bytes) (sizes_read bytes) ≡ offset_of bytes)
    × (is_zero (slice_range bytes (begin_read bytes Shstrtab + 52) (e_shoff (target_of bytes) (sizes_read bytes))) ≡ true)
unfolding holds
names_end bytes h =
    let free = is_zero (slice_range bytes (begin_read bytes Shstrtab + 52) (e_shoff (target_of bytes) (sizes_read bytes))) in
    let a = and_parts (bytes_eq (content bytes Shstrtab) section_names) (are_headers_next bytes) h in
    let b = and_parts (e_shoff (target_of bytes) (sizes_read bytes) == offset_of bytes) free a.1 in
    (same_text (content bytes Shstrtab) section_names (sym a.0), eqb-true (e_shoff (target_of bytes) (sizes_read bytes)) (offset_of bytes) b.0, b.1)

pub offset_is : (bytes : List ℕ) → Sound bytes → e_shoff (target_of bytes) (sizes_read bytes) ≡ offset_of bytes
offset_is bytes h = (names_end bytes (section_holds bytes h Shstrtab)).1

pub whole_is : (bytes : List ℕ) → Sound bytes → length bytes ≡ e_shoff (target_of bytes) (sizes_read bytes) + 8 * (class_of (target_of bytes)).e_shentsize
whole_is bytes h =
    let most = offset_reaches bytes h.header in
    let least = h.reaches in
    rw (offset_is bytes h) (omega arith)

none_from : (o : Option ℕ) → is_none o ≡ true → o ≡ None
none_from None h = refl
none_from (Some x) h = cc

to_stand : (bytes : List ℕ) (place : ℕ) (fs : List Field) → take (extent fs) (drop place bytes) ≡ spelled fs → Stands bytes (segment place (spelled fs))
to_stand bytes place fs h = rw (length-spelled fs) h

header_stands : (bytes : List ℕ) → AreBytes bytes → Sound bytes → Stands bytes (segment 4 (spelled (file_header (target_of bytes) (e_shoff (target_of bytes) (sizes_read bytes)))))
unfolding header_fault
header_stands bytes b h =
    let t = target_of bytes in
    let n = e_shoff t (sizes_read bytes) in
    let fs = file_header t n in
    let long = h.long in
    let room = extent-file_header t n in
    let same = offset_is bytes h ∙ offset_fits bytes h.header in
    let none : first_fault bytes 4 fs ≡ None = ap (λ m. first_fault bytes 4 (file_header t m)) same ∙ h.header in
    to_stand bytes 4 fs (fields_back bytes 4 fs b (omega arith) none)

where_is : (a b : Bool) → (not a || b) ≡ true → a ≡ true → b ≡ true
where_is true b h e = h
where_is false b h e = cc

described_parts : (bytes : List ℕ) (s : Section) → is_described bytes s ≡ true
    → (has_header bytes s (begin_read bytes s) (extent_read bytes s) ≡ true) × (is_loaded s ≡ true → has_program_header bytes s (begin_read bytes s) (extent_read bytes s) ≡ true)
unfolding is_described
described_parts bytes s h =
    let one = has_header bytes s (begin_read bytes s) (extent_read bytes s) in
    let two = has_program_header bytes s (begin_read bytes s) (extent_read bytes s) in
    let parts = and_parts one (not (is_loaded s) || two) h in
    (parts.0, where_is (is_loaded s) two parts.1)

placed_parts : (bytes : List ℕ) (s : Section) → is_placed bytes s ≡ true → (is_described bytes s ≡ true) × (is_zero (slice_range bytes (before_read bytes s) (begin_read bytes s)) ≡ true)
unfolding is_placed
placed_parts bytes s h =
    let inside = nat_le (begin_read bytes s + extent_read bytes s) (length bytes) in
    let free = is_zero (slice_range bytes (before_read bytes s) (begin_read bytes s)) in
    let a = and_parts (is_described bytes s) (inside && free) h in
    let b = and_parts inside free a.1 in
    (a.0, b.1)

section_stands : (bytes : List ℕ) → AreBytes bytes → Sound bytes → (s : Section) → Stands bytes (header_segment (target_of bytes) (sizes_read bytes) s)
unfolding has_header
section_stands bytes b h s =
    let t = target_of bytes in
    let fs = section_header t s (begin_read bytes s) (extent_read bytes s) in
    let described = (described_parts bytes s (placed_parts bytes s (section_placed bytes h s)).0).0 in
    let none = none_from (first_fault bytes (header_place bytes s) fs) described in
    let size = extent-section_header t s (begin_read bytes s) (extent_read bytes s) in
    let room = section_room s (class_of t).e_shentsize in
    let whole = whole_is bytes h in
    let same = offset_is bytes h in
    let back = fields_back bytes (header_place bytes s) fs b (omega arith) none in
    rw same (to_stand bytes (header_place bytes s) fs back)

program_stands : (bytes : List ℕ) → AreBytes bytes → Sound bytes → (s : Section) → is_loaded s ≡ true → Stands bytes (program_segment (target_of bytes) (sizes_read bytes) s)
unfolding has_program_header
program_stands bytes b h s loaded =
    let t = target_of bytes in
    let fs = program_header t s (begin_read bytes s) (extent_read bytes s) in
    let described = (described_parts bytes s (placed_parts bytes s (section_placed bytes h s)).0).1 loaded in
    let none = none_from (first_fault bytes (program_place bytes s) fs) described in
    let size = extent-program_header t s (begin_read bytes s) (extent_read bytes s) in
    let room = program_room t s loaded in
    let whole = whole_is bytes h in
    to_stand bytes (program_place bytes s) fs (fields_back bytes (program_place bytes s) fs b (omega arith) none)

pub zeros_are : (xs : List ℕ) → is_zero xs ≡ true → xs ≡ replicate (length xs) 0
zeros_are [] h = refl
zeros_are (x ∷ xs) h =
    let parts = and_parts (x == 0) (is_zero xs) h in
    let first = eqb-true x 0 parts.0 in
    rw (← zeros_are xs parts.1, first) refl

zeros_stand : (bytes : List ℕ) (low n : ℕ) → low + n ≤ length bytes → is_zero (take n (drop low bytes)) ≡ true → Stands bytes (segment low (replicate n 0))
zeros_stand bytes low n room h =
    let size = length-take-le n (drop low bytes) (omega (arith, length-drop low bytes)) in
    let is = zeros_are (take n (drop low bytes)) h ∙ ap (λ m. replicate m 0) size in
    rw (length-replicate {A = ℕ} n 0) is

before_le : (t : Target) (z : Sizes) (s : Section) → before t z s ≤ begin_in (layout_of t z) s
before_le t z Null = omega arith
before_le t z Text = omega arith
before_le t z Pool = omega arith
before_le t z Data = omega arith
before_le t z Gosig = omega arith
before_le t z Symtab = omega arith
before_le t z Strtab = omega arith
before_le t z Shstrtab = omega arith

free_stands : (bytes : List ℕ) → Sound bytes → (s : Section) → Stands bytes (segment (before_read bytes s) (replicate (begin_read bytes s - before_read bytes s) 0))
free_stands bytes h s =
    let placed = section_placed bytes h s in
    let within = placed_within bytes s placed in
    let order = before_le (target_of bytes) (sizes_read bytes) s in
    zeros_stand bytes (before_read bytes s) (begin_read bytes s - before_read bytes s) (omega arith) (placed_parts bytes s placed).1

content_stands : (bytes : List ℕ) → Sound bytes → (s : Section) → Stands bytes (segment (begin_read bytes s) (content bytes s))
unfolding content
content_stands bytes h s =
    rw (length-read bytes h s) refl

-- the names of the sections stand there too
held_stands : (bytes : List ℕ) → Sound bytes → (s : Section) → Stands bytes (segment (begin_read bytes s) (held_in (contents_read bytes) s))
held_stands bytes h Null = refl
held_stands bytes h Text = content_stands bytes h Text
held_stands bytes h Pool = content_stands bytes h Pool
held_stands bytes h Data = content_stands bytes h Data
held_stands bytes h Gosig = content_stands bytes h Gosig
held_stands bytes h Symtab = content_stands bytes h Symtab
held_stands bytes h Strtab = content_stands bytes h Strtab
held_stands bytes h Shstrtab =
    let P : List ℕ → Type 0 = λ xs. Stands bytes (segment (begin_read bytes Shstrtab) xs) in
    subst P (names_end bytes (section_holds bytes h Shstrtab)).0 (content_stands bytes h Shstrtab)

last_stands : (bytes : List ℕ) → Sound bytes → Stands bytes (gap_segment (shstrtab_begin (target_of bytes) (sizes_read bytes) + 52))
last_stands bytes h =
    let t = target_of bytes in
    let z = sizes_read bytes in
    let low = shstrtab_begin t z + 52 in
    let whole = whole_is bytes h in
    zeros_stand bytes low (aligned low - low) (omega arith) (names_end bytes (section_holds bytes h Shstrtab)).2

-- a file without a fault is framed by what its sections hold
pub sound_framed : (bytes : List ℕ) → AreBytes bytes → Sound bytes → Framed bytes (target_of bytes) (contents_read bytes)
sound_framed bytes b h =
    let t = target_of bytes in
    let at = sym (sizes_are bytes h) in
    record {
      magic_bytes = same_text (take 4 bytes) magic (sym h.elf);
      header = subst (λ (z : Sizes). Stands bytes (segment 4 (spelled (file_header t (e_shoff t z))))) at (header_stands bytes b h);
      program = λ s loaded. subst (λ (z : Sizes). Stands bytes (program_segment t z s)) at (program_stands bytes b h s loaded);
      free = λ s. subst (λ (z : Sizes). Stands bytes (segment (before t z s) (replicate (begin_in (layout_of t z) s - before t z s) 0))) at (free_stands bytes h s);
      held = λ s. subst (λ (z : Sizes). Stands bytes (segment (begin_in (layout_of t z) s) (held_in (contents_read bytes) s))) at (held_stands bytes h s);
      section = λ s. subst (λ (z : Sizes). Stands bytes (header_segment t z s)) at (section_stands bytes b h s);
      last = subst (λ (z : Sizes). Stands bytes (gap_segment (shstrtab_begin t z + 52))) at (last_stands bytes h);
      whole = subst (λ (z : Sizes). length bytes ≡ e_shoff t z + 8 * (class_of t).e_shentsize) at (whole_is bytes h);
    }
