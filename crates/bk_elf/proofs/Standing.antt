-- The parts of a file, each at its place.
use Rattle.std.proofs.Common.{◌≡◌, ℕ, ◌+◌, ◌-◌, ◌*◌, true, List, [], ◌∷◌, length, replicate, refl, sym, ap, ◌∙◌, arith}
use Rattle.std.proofs.lemmas.List.{length-append}
use Rattle.std.specs.List.{AllByRecursion}
use Rattle.bk_ops.specs.declared.types.Target.{Target}
use Rattle.bk_elf.specs.declared.tables.Section.{Section}
use Rattle.bk_elf.specs.declared.tables.Section.TheVariants.{Null, Text, Pool, Data, Gosig, Symtab, Strtab, Shstrtab}
use Rattle.bk_elf.specs.Fields.{spelled}
use Rattle.bk_elf.specs.Tables.{class_of, magic, section_names, file_header}
use Rattle.bk_elf.specs.Layout.{layout_of, begin_in, before, e_shoff, shstrtab_begin}
use Rattle.bk_elf.specs.Loading.{is_loaded}
use Rattle.bk_elf.proofs.Segments.{Segment, Chained, end_of, flat, Stands, flat_stands, stands_flat}
use Rattle.bk_elf.proofs.Framing.{Contents, sizes_in, segment, gap_segment, program_segment, header_segment, segments, segments_chained, segments_end}

abbrev pub held_in : Contents → Section → List ℕ
held_in c Null = []
held_in c Text = c.text
held_in c Pool = c.pool
held_in c Data = c.window
held_in c Gosig = c.gosig
held_in c Symtab = c.symtab
held_in c Strtab = c.strtab
held_in c Shstrtab = section_names

abbrev pub begin_of : Target → Contents → Section → ℕ
begin_of t c s = begin_in (layout_of t (sizes_in c)) s

abbrev pub before_of : Target → Contents → Section → ℕ
before_of t c s = before t (sizes_in c) s

pub record Framed (bytes : List ℕ) (t : Target) (c : Contents) : Type 0 where
  pub magic_bytes : Stands bytes (segment 0 magic)
  pub header : Stands bytes (segment 4 (spelled (file_header t (e_shoff t (sizes_in c)))))
  pub program : (s : Section) → is_loaded s ≡ true → Stands bytes (program_segment t (sizes_in c) s)
  pub free : (s : Section) → Stands bytes (segment (before_of t c s) (replicate (begin_of t c s - before_of t c s) 0))
  pub held : (s : Section) → Stands bytes (segment (begin_of t c s) (held_in c s))
  pub section : (s : Section) → Stands bytes (header_segment t (sizes_in c) s)
  pub last : Stands bytes (gap_segment (shstrtab_begin t (sizes_in c) + 52))
  pub whole : length bytes ≡ e_shoff t (sizes_in c) + 8 * (class_of t).e_shentsize

nothing_stands : (bytes : List ℕ) (place n : ℕ) → n ≡ 0 → Stands bytes (segment place (replicate n 0))
nothing_stands bytes place n e = rw e refl

program_from : (bytes : List ℕ) (t : Target) (c : Contents) → AllByRecursion (Stands bytes) (segments t c)
    → (s : Section) → is_loaded s ≡ true → Stands bytes (program_segment t (sizes_in c) s)
program_from bytes t c h Null l = cc
program_from bytes t c h Text l = h.1.1.0
program_from bytes t c h Pool l = h.1.1.1.0
program_from bytes t c h Data l = h.1.1.1.1.0
program_from bytes t c h Gosig l = cc
program_from bytes t c h Symtab l = cc
program_from bytes t c h Strtab l = cc
program_from bytes t c h Shstrtab l = cc

free_from : (bytes : List ℕ) (t : Target) (c : Contents) → AllByRecursion (Stands bytes) (segments t c)
    → (s : Section) → Stands bytes (segment (before_of t c s) (replicate (begin_of t c s - before_of t c s) 0))
free_from bytes t c h Null = nothing_stands bytes (before_of t c Null) (begin_of t c Null - before_of t c Null) (omega arith)
free_from bytes t c h Text = h.1.1.1.1.1.0
free_from bytes t c h Pool = h.1.1.1.1.1.1.1.0
free_from bytes t c h Data = h.1.1.1.1.1.1.1.1.1.0
free_from bytes t c h Gosig = h.1.1.1.1.1.1.1.1.1.1.1.0
free_from bytes t c h Symtab = h.1.1.1.1.1.1.1.1.1.1.1.1.1.0
free_from bytes t c h Strtab = nothing_stands bytes (before_of t c Strtab) (begin_of t c Strtab - before_of t c Strtab) (omega arith)
free_from bytes t c h Shstrtab = nothing_stands bytes (before_of t c Shstrtab) (begin_of t c Shstrtab - before_of t c Shstrtab) (omega arith)

held_from : (bytes : List ℕ) (t : Target) (c : Contents) → AllByRecursion (Stands bytes) (segments t c)
    → (s : Section) → Stands bytes (segment (begin_of t c s) (held_in c s))
held_from bytes t c h Null = refl
held_from bytes t c h Text = h.1.1.1.1.1.1.0
held_from bytes t c h Pool = h.1.1.1.1.1.1.1.1.0
held_from bytes t c h Data = h.1.1.1.1.1.1.1.1.1.1.0
held_from bytes t c h Gosig = h.1.1.1.1.1.1.1.1.1.1.1.1.0
held_from bytes t c h Symtab = h.1.1.1.1.1.1.1.1.1.1.1.1.1.1.0
held_from bytes t c h Strtab = h.1.1.1.1.1.1.1.1.1.1.1.1.1.1.1.0
held_from bytes t c h Shstrtab = h.1.1.1.1.1.1.1.1.1.1.1.1.1.1.1.1.0

section_from : (bytes : List ℕ) (t : Target) (c : Contents) → AllByRecursion (Stands bytes) (segments t c)
    → (s : Section) → Stands bytes (header_segment t (sizes_in c) s)
section_from bytes t c h Null = h.1.1.1.1.1.1.1.1.1.1.1.1.1.1.1.1.1.1.0
section_from bytes t c h Text = h.1.1.1.1.1.1.1.1.1.1.1.1.1.1.1.1.1.1.1.0
section_from bytes t c h Pool = h.1.1.1.1.1.1.1.1.1.1.1.1.1.1.1.1.1.1.1.1.0
section_from bytes t c h Data = h.1.1.1.1.1.1.1.1.1.1.1.1.1.1.1.1.1.1.1.1.1.0
section_from bytes t c h Gosig = h.1.1.1.1.1.1.1.1.1.1.1.1.1.1.1.1.1.1.1.1.1.1.0
section_from bytes t c h Symtab = h.1.1.1.1.1.1.1.1.1.1.1.1.1.1.1.1.1.1.1.1.1.1.1.0
section_from bytes t c h Strtab = h.1.1.1.1.1.1.1.1.1.1.1.1.1.1.1.1.1.1.1.1.1.1.1.1.0
section_from bytes t c h Shstrtab = h.1.1.1.1.1.1.1.1.1.1.1.1.1.1.1.1.1.1.1.1.1.1.1.1.1.0

length-flat : (start : ℕ) (ss : List Segment) → Chained start ss → start + length (flat ss) ≡ end_of start ss
length-flat start [] chain = omega arith
length-flat start (s ∷ ss) chain =
    let rest = length-flat (s.place + length s.bytes) ss chain.1 in
    let both = length-append s.bytes (flat ss) in
    let first = chain.0 in
    rw (← rest) (omega arith)

-- the segments one after the other are framed
pub framed_from : (bytes : List ℕ) (t : Target) (c : Contents) → bytes ≡ flat (segments t c) → Framed bytes t c
framed_from bytes t c is =
    let h = flat_stands bytes 0 (segments t c) (segments_chained t c) is in
    let size = length-flat 0 (segments t c) (segments_chained t c) in
    let end = segments_end t c in
    let len = ap length is in
    record {
      magic_bytes = h.0;
      header = h.1.0;
      program = program_from bytes t c h;
      free = free_from bytes t c h;
      held = held_from bytes t c h;
      section = section_from bytes t c h;
      last = h.1.1.1.1.1.1.1.1.1.1.1.1.1.1.1.1.1.0;
      whole = omega arith;
    }

-- and what is framed is the segments one after the other
pub framed_to : (bytes : List ℕ) (t : Target) (c : Contents) → Framed bytes t c → bytes ≡ flat (segments t c)
framed_to bytes t c f =
    stands_flat bytes 0 (segments t c) (segments_chained t c) (f.whole ∙ sym (segments_end t c)) (
      f.magic_bytes,
      (f.header, (f.program Text refl, (f.program Pool refl, (f.program Data refl, (f.free Text, (f.held Text, (f.free Pool, (f.held Pool, (f.free Data, (f.held Data, (f.free Gosig, (f.held Gosig, (f.free Symtab, (f.held Symtab, (f.held Strtab, (f.held Shstrtab, (f.last, (f.section Null, (f.section Text, (f.section Pool, (f.section Data, (f.section Gosig, (f.section Symtab, (f.section Strtab, (f.section Shstrtab, tt))))))))))))))))))))))))),
    )
