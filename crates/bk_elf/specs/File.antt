-- The file of an object.
use Rattle.std.specs.Prelude.{◌≡◌, ℕ, ◌-◌, List, ◌++◌, length, replicate}
use Rattle.std.specs.List.{flat_map}
use Rattle.bk_ops.specs.declared.types.Target.{Target}
use Rattle.bk_elf.specs.declared.tables.Section.{Section}
use Rattle.bk_elf.specs.declared.tables.Section.TheVariants.{Text, Pool, Data}
use Rattle.bk_elf.specs.declared.layout.Sizes.{Sizes}
use Rattle.bk_elf.specs.Fields.{spelled}
use Rattle.bk_elf.specs.Tables.{magic, sections, section_names, file_header, program_header, section_header}
use Rattle.bk_elf.specs.Layout.{aligned, size_of, layout_of, begin_in, e_shoff}
use Rattle.bk_elf.specs.Records.{ObjectRecord}
use Rattle.bk_elf.specs.Object.{IsObject, IsWide, narrowed}
use Rattle.bk_elf.specs.Contents.{word_bytes, constant_bytes, gosig_words, names_of, name_bytes, symbol_bytes, sizes_of}

-- the bytes, with zeros up to a multiple of 8
unfoldable pub padded : List ℕ → List ℕ
padded bytes = bytes ++ replicate (aligned (length bytes) - length bytes) 0

abbrev pub program_bytes : Target → Sizes → Section → List ℕ
program_bytes t z s = spelled (program_header t s (begin_in (layout_of t z) s) (size_of z s))

abbrev pub header_bytes : Target → Sizes → Section → List ℕ
header_bytes t z s = spelled (section_header t s (begin_in (layout_of t z) s) (size_of z s))

-- the header and the program headers
unfoldable pub front_of : Target → Sizes → List ℕ
front_of t z =
    magic ++ spelled (file_header t (e_shoff t z)) ++ program_bytes t z Text ++ program_bytes t z Pool ++ program_bytes t z Data

-- after these bytes the sections that are loaded
unfoldable pub with_loaded : ObjectRecord → List ℕ → List ℕ
with_loaded o front = padded (padded (padded front ++ word_bytes o.text) ++ constant_bytes o.pool) ++ o.window

-- after these bytes the other sections
unfoldable pub with_tables : ObjectRecord → List ℕ → List ℕ
with_tables o loaded =
    padded (padded loaded ++ word_bytes (gosig_words o.types o.sigs)) ++ symbol_bytes o.target o.symbols ++ name_bytes (names_of o.symbols) ++ section_names

-- the section headers end the file
unfoldable pub headers_of : Target → Sizes → List ℕ
headers_of t z = flat_map (header_bytes t z) sections

unfoldable pub file_of : ObjectRecord → List ℕ
file_of o = padded (with_tables o (with_loaded o (front_of o.target (sizes_of o)))) ++ headers_of o.target (sizes_of o)

-- the file of an object, with the addresses and sizes of its symbols modulo 2 ^ 32
pub record IsFileOf (bytes : List ℕ) (o : ObjectRecord) : Type 0 where
  pub whole : ObjectRecord
  pub object : IsObject whole
  pub wide : IsWide whole
  pub file : bytes ≡ file_of whole
  pub same : o ≡ narrowed whole
