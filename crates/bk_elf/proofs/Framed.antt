-- The file of an object is the segments of its contents.
use Rattle.std.proofs.Common.{◌≡◌, ℕ, ◌+◌, ◌*◌, List, [], ◌∷◌, ◌++◌, length, replicate, refl, ap, ◌∙◌, arith}
use Rattle.std.proofs.lemmas.List.{length-append, length-replicate, append_assoc}
use Rattle.std.specs.List.{flat_map}
use Rattle.byteorder.specs.Endian.{little_bytes}
use Rattle.bk_ops.specs.declared.types.Target.{Target}
use Rattle.bk_elf.specs.declared.tables.Section.TheVariants.{Text, Pool, Data, Gosig, Symtab}
use Rattle.bk_elf.specs.Records.{SymbolRecord, ObjectRecord}
use Rattle.bk_elf.specs.Tables.{class_of, magic, sections, section_names, file_header, symbol_entry}
use Rattle.bk_elf.specs.Fields.{spelled}
use Rattle.bk_elf.specs.Layout.{headers_end, before, shstrtab_begin, e_shoff}
use Rattle.bk_elf.specs.Contents.{word_bytes, constant_bytes, gosig_words, names_of, name_bytes, entry_bytes, symbol_bytes, sizes_of}
use Rattle.bk_elf.specs.File.{padded, program_bytes, header_bytes, front_of, with_loaded, with_tables, headers_of, file_of}
use Rattle.bk_elf.proofs.Bytes.{length-little, length-spelled}
use Rattle.bk_elf.proofs.Headers.{extent-symbol_entry}
use Rattle.bk_elf.proofs.Segments.{flat}
use Rattle.bk_elf.proofs.Framing.{Contents, sizes_in, gap_bytes, segments, padded_to, length-after, length-front_of}

abbrev pub contents_of : ObjectRecord → Contents
contents_of o = record {
  text = word_bytes o.text;
  pool = constant_bytes o.pool;
  window = o.window;
  gosig = word_bytes (gosig_words o.types o.sigs);
  symtab = symbol_bytes o.target o.symbols;
  strtab = name_bytes (names_of o.symbols);
}

pub length-numbers : (size : ℕ) (ns : List ℕ) → length (flat_map (little_bytes size) ns) ≡ size * length ns
length-numbers size [] = omega arith
length-numbers size (n ∷ ns) =
    let rest = length-numbers size ns in
    let here = length-little size n in
    let both = length-append (little_bytes size n) (flat_map (little_bytes size) ns) in
    omega arith

length-entries : (t : Target) (place : ℕ) (ss : List SymbolRecord) → length (entry_bytes t place ss) ≡ (class_of t).st_entsize * length ss
unfolding entry_bytes
length-entries t place [] = omega arith
length-entries t place (s ∷ ss) =
    let fields = symbol_entry t place s.func s.address s.size in
    let rest = length-entries t (place + length s.name + 1) ss in
    let here = length-spelled fields ∙ extent-symbol_entry t place s.func s.address s.size in
    let both = length-append (spelled fields) (entry_bytes t (place + length s.name + 1) ss) in
    omega arith

pub length-symbols : (t : Target) (ss : List SymbolRecord) → length (symbol_bytes t ss) ≡ (class_of t).st_entsize * (length ss + 1)
unfolding symbol_bytes
length-symbols t ss =
    let first = length-replicate {A = ℕ} (class_of t).st_entsize 0 in
    let rest = length-entries t 1 ss in
    let both = length-append (replicate {A = ℕ} (class_of t).st_entsize 0) (entry_bytes t 1 ss) in
    omega arith

-- the sizes are those of the contents
pub sizes_same : (o : ObjectRecord) → sizes_of o ≡ sizes_in (contents_of o)
unfolding sizes_of
sizes_same o =
    let a = length-numbers 4 o.text in
    let b = length-numbers 8 o.pool in
    let d = length-numbers 4 (gosig_words o.types o.sigs) in
    let e = length-symbols o.target o.symbols in
    rw (a, b, d, e) refl

abbrev gapped : ObjectRecord → List ℕ
gapped o =
    let t = o.target in
    let c = contents_of o in
    let z = sizes_in c in
    let A = (front_of t z ++ gap_bytes (headers_end t)) ++ c.text in
    let B = (A ++ gap_bytes (before t z Pool)) ++ c.pool in
    let L = (B ++ gap_bytes (before t z Data)) ++ c.window in
    let D = (L ++ gap_bytes (before t z Gosig)) ++ c.gosig in
    let T = (D ++ gap_bytes (before t z Symtab)) ++ c.symtab ++ c.strtab ++ section_names in
    (T ++ gap_bytes (shstrtab_begin t z + 52)) ++ headers_of t z

regroup : (m h a b d u x v p w k q l g y s r n z : List ℕ)
    → m ++ h ++ a ++ b ++ d ++ u ++ x ++ v ++ p ++ w ++ k ++ q ++ l ++ g ++ y ++ s ++ r ++ n ++ z
    ≡ m ++ (h ++ (a ++ (b ++ (d ++ (u ++ (x ++ (v ++ (p ++ (w ++ (k ++ (q ++ (l ++ (g ++ (y ++ (s ++ (r ++ (n ++ z)))))))))))))))))
regroup m h a b d u x v p w k q l g y s r n z = simp append_assoc

spread : (o : ObjectRecord) → gapped o ≡ flat (segments o.target (contents_of o))
unfolding front_of headers_of
spread o =
    let t = o.target in
    let c = contents_of o in
    let z = sizes_in c in
    regroup magic (spelled (file_header t (e_shoff t z))) (program_bytes t z Text) (program_bytes t z Pool) (program_bytes t z Data) (gap_bytes (headers_end t)) c.text
    (gap_bytes (before t z Pool)) c.pool (gap_bytes (before t z Data)) c.window (gap_bytes (before t z Gosig)) c.gosig (gap_bytes (before t z Symtab)) c.symtab c.strtab
    section_names (gap_bytes (shstrtab_begin t z + 52)) (flat_map (header_bytes t z) sections)

-- the file is the segments one after the other
pub file_is : (o : ObjectRecord) → file_of o ≡ flat (segments o.target (contents_of o))
unfolding file_of with_tables with_loaded
file_is o =
    let t = o.target in
    let c = contents_of o in
    let z = sizes_in c in
    let F = front_of t z in
    let A = padded F ++ c.text in
    let B = padded A ++ c.pool in
    let L = padded B ++ c.window in
    let D = padded L ++ c.gosig in
    let T = padded D ++ c.symtab ++ c.strtab ++ section_names in
    let f = length-front_of t z in
    let a = length-after F c.text (headers_end t) f in
    let b = length-after A c.pool (before t z Pool) a in
    let l = length-after B c.window (before t z Data) b in
    let d = length-after L c.gosig (before t z Gosig) l in
    let s = length-after D c.symtab (before t z Symtab) d in
    let n = length-append (padded D ++ c.symtab) c.strtab in
    let m = length-append (padded D ++ c.symtab ++ c.strtab) section_names in
    let last : length T ≡ shstrtab_begin t z + 52 = m ∙ ap (λ k. k + 52) (n ∙ ap (λ k. k + length c.strtab) s) in
    let flatten = spread o in
    rw (
      sizes_same o,
      padded_to T (shstrtab_begin t z + 52) last,
      padded_to D (before t z Symtab) d,
      padded_to L (before t z Gosig) l,
      padded_to B (before t z Data) b,
      padded_to A (before t z Pool) a,
      padded_to F (headers_end t) f,
    ) flatten
