-- A file as segments: headers, contents, and the gaps between them.
use Rattle.std.proofs.Common.{◌≡◌, ℕ, ◌+◌, ◌-◌, ◌*◌, List, [], ◌∷◌, ◌++◌, length, replicate, refl, sym, ap, ◌∙◌, arith}
use Rattle.std.proofs.lemmas.List.{length-append, length-replicate}
use Rattle.bk_ops.specs.declared.types.Target.{Target}
use Rattle.bk_elf.specs.declared.tables.Section.{Section}
use Rattle.bk_elf.specs.declared.tables.Section.TheVariants.{Null, Text, Pool, Data, Gosig, Symtab, Strtab, Shstrtab}
use Rattle.bk_elf.specs.declared.layout.Sizes.{Sizes}
use Rattle.bk_elf.specs.Fields.{spelled}
use Rattle.bk_elf.specs.Tables.{class_of, magic, section_names, number_of, file_header, program_header, section_header}
use Rattle.bk_elf.specs.Layout.{aligned, size_of, headers_end, layout_of, begin_in, before, e_shoff, shstrtab_begin, text_begin, pool_begin, data_begin, gosig_begin, symtab_begin, strtab_begin}
use Rattle.bk_elf.specs.File.{padded, program_bytes, header_bytes, front_of}
use Rattle.bk_elf.proofs.Bytes.{length-spelled}
use Rattle.bk_elf.proofs.Headers.{extent-file_header, extent-program_header, extent-section_header}
use Rattle.bk_elf.proofs.Segments.{Segment, Chained, end_of}

-- what the sections hold that are not the same in every file
pub record Contents : Type 0 where
  pub text : List ℕ
  pub pool : List ℕ
  pub window : List ℕ
  pub gosig : List ℕ
  pub symtab : List ℕ
  pub strtab : List ℕ

abbrev pub sizes_in : Contents → Sizes
sizes_in c = record {
  text = length c.text;
  pool = length c.pool;
  window = length c.window;
  gosig = length c.gosig;
  symtab = length c.symtab;
  strtab = length c.strtab;
}

abbrev pub segment : ℕ → List ℕ → Segment
segment place bytes = record { place = place; bytes = bytes }

abbrev pub gap_bytes : ℕ → List ℕ
gap_bytes n = replicate (aligned n - n) 0

abbrev pub gap_segment : ℕ → Segment
gap_segment n = segment n (gap_bytes n)

abbrev pub program_segment : Target → Sizes → Section → Segment
program_segment t z s = segment ((class_of t).e_ehsize + (number_of s - 1) * (class_of t).e_phentsize) (program_bytes t z s)

abbrev pub header_segment : Target → Sizes → Section → Segment
header_segment t z s = segment (e_shoff t z + number_of s * (class_of t).e_shentsize) (header_bytes t z s)

abbrev pub section_headers : Target → Sizes → List Segment
section_headers t z =
    header_segment t z Null ∷ header_segment t z Text ∷ header_segment t z Pool ∷ header_segment t z Data ∷ header_segment t z Gosig
    ∷ header_segment t z Symtab ∷ header_segment t z Strtab ∷ header_segment t z Shstrtab ∷ []

abbrev pub tables_of : Target → Sizes → Contents → List Segment
tables_of t z c =
    gap_segment (before t z Gosig) ∷ segment (gosig_begin t z) c.gosig ∷ gap_segment (before t z Symtab) ∷ segment (symtab_begin t z) c.symtab
    ∷ segment (strtab_begin t z) c.strtab ∷ segment (shstrtab_begin t z) section_names ∷ gap_segment (shstrtab_begin t z + 52) ∷ section_headers t z

abbrev pub loaded_of : Target → Sizes → Contents → List Segment
loaded_of t z c =
    gap_segment (headers_end t) ∷ segment (text_begin t) c.text ∷ gap_segment (before t z Pool) ∷ segment (pool_begin t z) c.pool
    ∷ gap_segment (before t z Data) ∷ segment (data_begin t z) c.window ∷ tables_of t z c

abbrev pub segments_of : Target → Sizes → Contents → List Segment
segments_of t z c =
    segment 0 magic ∷ segment 4 (spelled (file_header t (e_shoff t z))) ∷ program_segment t z Text ∷ program_segment t z Pool ∷ program_segment t z Data
    ∷ loaded_of t z c

abbrev pub segments : Target → Contents → List Segment
segments t c = segments_of t (sizes_in c) c

-- what follows a gap begins at the multiple of 8
over_gap : (n : ℕ) → aligned n ≡ n + length (gap_bytes n)
over_gap n = let e = length-replicate {A = ℕ} (aligned n - n) 0 in omega arith

length-program : (t : Target) (z : Sizes) (s : Section) → length (program_bytes t z s) ≡ (class_of t).e_phentsize
length-program t z s =
    length-spelled (program_header t s (begin_in (layout_of t z) s) (size_of z s)) ∙ extent-program_header t s (begin_in (layout_of t z) s) (size_of z s)

length-header : (t : Target) (z : Sizes) (s : Section) → length (header_bytes t z s) ≡ (class_of t).e_shentsize
length-header t z s =
    length-spelled (section_header t s (begin_in (layout_of t z) s) (size_of z s)) ∙ extent-section_header t s (begin_in (layout_of t z) s) (size_of z s)

length-front : (t : Target) (n : ℕ) → 4 + length (spelled (file_header t n)) ≡ (class_of t).e_ehsize
length-front t n = let a = length-spelled (file_header t n) in let b = extent-file_header t n in omega arith

-- places of headers of one size
first_place : (a s : ℕ) → a + 0 * s ≡ a
first_place a s = omega arith

next_place : (a s l k : ℕ) → l ≡ s → a + (k + 1) * s ≡ a + k * s + l
next_place a s l k e = rw e (omega arith)

headers_chained : (t : Target) (z : Sizes) (start : ℕ) → e_shoff t z ≡ start → Chained start (section_headers t z)
headers_chained t z start is =
    let a = e_shoff t z in
    let s = (class_of t).e_shentsize in
    let next = λ (x : Section) (k : ℕ). next_place a s (length (header_bytes t z x)) k (length-header t z x) in (
      first_place a s ∙ is,
      (next Null 0, (next Text 1, (next Pool 2, (next Data 3, (next Gosig 4, (next Symtab 5, (next Strtab 6, tt))))))),
    )

tables_chained : (t : Target) (c : Contents) (start : ℕ) → before t (sizes_in c) Gosig ≡ start → Chained start (tables_of t (sizes_in c) c)
tables_chained t c start is =
    let z = sizes_in c in (
      is,
      (
        over_gap (before t z Gosig),
        (
          refl,
          (
            over_gap (before t z Symtab),
            (
              refl,
              (
                refl,
                (
                  refl,
                  headers_chained t z (shstrtab_begin t z + 52 + length (gap_bytes (shstrtab_begin t z + 52))) (over_gap (shstrtab_begin t z + 52)),
                ),
              ),
            ),
          ),
        ),
      ),
    )

loaded_chained : (t : Target) (c : Contents) (start : ℕ) → headers_end t ≡ start → Chained start (loaded_of t (sizes_in c) c)
loaded_chained t c start is =
    let z = sizes_in c in (
      is,
      (
        over_gap (headers_end t),
        (
          refl,
          (
            over_gap (before t z Pool),
            (
              refl,
              (
                over_gap (before t z Data),
                tables_chained t c (data_begin t z + length c.window) refl,
              ),
            ),
          ),
        ),
      ),
    )

-- the segments follow one another
pub segments_chained : (t : Target) (c : Contents) → Chained 0 (segments t c)
segments_chained t c =
    let z = sizes_in c in
    let a = (class_of t).e_ehsize in
    let s = (class_of t).e_phentsize in
    let next = λ (x : Section) (k : ℕ). next_place a s (length (program_bytes t z x)) k (length-program t z x) in (
      refl,
      (
        refl,
        (
          first_place a s ∙ sym (length-front t (e_shoff t z)),
          (
            next Text 0,
            (
              next Pool 1,
              loaded_chained t c (a + 2 * s + length (program_bytes t z Data)) (next_place a s (length (program_bytes t z Data)) 2 (length-program t z Data)),
            ),
          ),
        ),
      ),
    )

-- and the last ends with the file
pub segments_end : (t : Target) (c : Contents) → end_of 0 (segments t c) ≡ e_shoff t (sizes_in c) + 8 * (class_of t).e_shentsize
segments_end t c = sym (next_place (e_shoff t (sizes_in c)) (class_of t).e_shentsize (length (header_bytes t (sizes_in c) Shstrtab)) 7 (length-header t (sizes_in c) Shstrtab))

length-padded : (bytes : List ℕ) → length (padded bytes) ≡ aligned (length bytes)
unfolding padded
length-padded bytes = length-append bytes (gap_bytes (length bytes)) ∙ sym (over_gap (length bytes))

pub padded_to : (bytes : List ℕ) (n : ℕ) → length bytes ≡ n → padded bytes ≡ bytes ++ gap_bytes n
unfolding padded
padded_to bytes n e = rw e refl

pub length-after : (bytes more : List ℕ) (n : ℕ) → length bytes ≡ n → length (padded bytes ++ more) ≡ aligned n + length more
length-after bytes more n e = length-append (padded bytes) more ∙ ap (λ m. m + length more) (length-padded bytes ∙ ap (λ m. aligned m) e)

pub length-front_of : (t : Target) (z : Sizes) → length (front_of t z) ≡ headers_end t
unfolding front_of
length-front_of t z =
    let front = spelled (file_header t (e_shoff t z)) in
    let a = length-append (magic ++ front ++ program_bytes t z Text ++ program_bytes t z Pool) (program_bytes t z Data) in
    let b = length-append (magic ++ front ++ program_bytes t z Text) (program_bytes t z Pool) in
    let d = length-append (magic ++ front) (program_bytes t z Text) in
    let e = length-append magic front in
    let f = length-front t (e_shoff t z) in
    omega (arith, length-program t z Text, length-program t z Pool, length-program t z Data)
