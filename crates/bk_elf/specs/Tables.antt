-- The headers of an object: their fields in the order of the ELF specification, and the numbers that they hold.
use Rattle.std.specs.Prelude.{ℕ, Bool, if◌then◌else◌, List, [], ◌∷◌, ◌++◌, codes, replicate}
use Rattle.std.specs.List.{flat_map}
use Rattle.bk_ops.specs.declared.types.Target.{Target}
use Rattle.bk_ops.specs.declared.types.Target.TheVariants.{Arm, Riscv64}
use Rattle.bk_elf.specs.declared.fields.Width.TheVariants.{Byte, Half, Word, Xword}
use Rattle.bk_elf.specs.declared.fields.Field.{Field}
use Rattle.bk_elf.specs.declared.tables.Class.{Class}
use Rattle.bk_elf.specs.declared.tables.Row.{Row}
use Rattle.bk_elf.specs.declared.tables.Section.{Section}
use Rattle.bk_elf.specs.declared.tables.Section.TheVariants.{Null, Text, Pool, Data, Gosig, Symtab, Strtab, Shstrtab}
use Rattle.bk_elf.specs.Fields.{field}

-- the bytes that begin an ELF file: 127 and the letters E, L, F
abbrev pub magic : List ℕ
magic = 0x7f ∷ 0x45 ∷ 0x4c ∷ 0x46 ∷ []

-- a name and the 0 that ends it
abbrev pub ended : List ℕ → List ℕ
ended name = name ++ 0 ∷ []

abbrev pub section_names : List ℕ
section_names = flat_map ended
    ([] ∷ codes ".text" ∷ codes ".pool" ∷ codes ".data" ∷ codes ".gosig" ∷ codes ".symtab" ∷ codes ".strtab" ∷ codes ".shstrtab" ∷ [])

-- the 32-bit class for arm, with version 5 of its binary interface, and the 64-bit class for riscv64
abbrev pub class_of : Target → Class
class_of Arm = record {
  ei_class = 1;
  e_machine = 40;
  e_flags = 0x05000000;
  address = Word;
  e_ehsize = 52;
  e_phentsize = 32;
  e_shentsize = 40;
  st_entsize = 16;
  e_shoff = 32;
  sh_size = 20;
  st_info = 12;
  st_value = 4;
  st_size = 8;
}
class_of Riscv64 = record {
  ei_class = 2;
  e_machine = 243;
  e_flags = 0;
  address = Xword;
  e_ehsize = 64;
  e_phentsize = 56;
  e_shentsize = 64;
  st_entsize = 24;
  e_shoff = 40;
  sh_size = 32;
  st_info = 4;
  st_value = 8;
  st_size = 16;
}

abbrev pub sections : List Section
sections = Null ∷ Text ∷ Pool ∷ Data ∷ Gosig ∷ Symtab ∷ Strtab ∷ Shstrtab ∷ []

abbrev pub number_of : Section → ℕ
number_of Null = 0
number_of Text = 1
number_of Pool = 2
number_of Data = 3
number_of Gosig = 4
number_of Symtab = 5
number_of Strtab = 6
number_of Shstrtab = 7

abbrev pub row : ℕ → ℕ → ℕ → ℕ → ℕ → ℕ → ℕ → ℕ → Row
row name type flags address link info align segment = record {
  sh_name = name;
  sh_type = type;
  sh_flags = flags;
  sh_addr = address;
  sh_link = link;
  sh_info = info;
  sh_addralign = align;
  p_flags = segment;
}

-- name, type, flags, address, link, info, alignment; the flags of the program header, 0 where there is none
abbrev pub row_of : Section → Row
row_of Null = row 0 0 0 0 0 0 0 0
row_of Text = row 1 1 6 0x10000 0 0 4 5
row_of Pool = row 7 1 2 0x2000000 0 0 8 4
row_of Data = row 13 1 3 0x4000000 0 0 8 6
row_of Gosig = row 19 1 0 0 0 0 4 0
row_of Symtab = row 26 2 0 0 6 1 8 0
row_of Strtab = row 34 3 0 0 0 0 1 0
row_of Shstrtab = row 42 3 0 0 0 0 1 0

abbrev pub entry_size : Target → Section → ℕ
entry_size t Null = 0
entry_size t Text = 0
entry_size t Pool = 0
entry_size t Data = 0
entry_size t Gosig = 0
entry_size t Symtab = (class_of t).st_entsize
entry_size t Strtab = 0
entry_size t Shstrtab = 0

-- a field that holds an address, an offset or a size
abbrev pub address_field : Target → ℕ → Field
address_field t n = field (class_of t).address n

-- class, data, version and padding of the identification after the magic bytes; type, machine, version, entry, offset
-- of the program headers, offset of the section headers, flags; size of this header; size and number of the program
-- headers; size and number of the section headers, and which of them is that of their names
unfoldable pub file_header : Target → ℕ → List Field
file_header t e_shoff =
    field Byte (class_of t).ei_class ∷ field Byte 1 ∷ field Byte 1 ∷ (replicate 9 (field Byte 0) ++ (
    field Half 2 ∷ field Half (class_of t).e_machine ∷ field Word 1 ∷ address_field t 0 ∷ address_field t (class_of t).e_ehsize
    ∷ address_field t e_shoff ∷ field Word (class_of t).e_flags ∷ field Half (class_of t).e_ehsize ∷ field Half (class_of t).e_phentsize
    ∷ field Half 3 ∷ field Half (class_of t).e_shentsize ∷ field Half 8 ∷ field Half 7 ∷ []))

-- type, offset, address, physical address, size in the file, size in memory, flags, alignment; the flags come second in
-- the 64-bit class
unfoldable pub program_header : Target → Section → ℕ → ℕ → List Field
program_header Arm s offset size =
    field Word 1 ∷ field Word offset ∷ field Word (row_of s).sh_addr ∷ field Word (row_of s).sh_addr ∷ field Word size ∷ field Word size
    ∷ field Word (row_of s).p_flags ∷ field Word 8 ∷ []
program_header Riscv64 s offset size =
    field Word 1 ∷ field Word (row_of s).p_flags ∷ field Xword offset ∷ field Xword (row_of s).sh_addr ∷ field Xword (row_of s).sh_addr
    ∷ field Xword size ∷ field Xword size ∷ field Xword 8 ∷ []

-- name, type, flags, address, offset, size, link, info, alignment, size of an entry
unfoldable pub section_header : Target → Section → ℕ → ℕ → List Field
section_header t s offset size =
    field Word (row_of s).sh_name ∷ field Word (row_of s).sh_type ∷ address_field t (row_of s).sh_flags ∷ address_field t (row_of s).sh_addr
    ∷ address_field t offset ∷ address_field t size ∷ field Word (row_of s).sh_link ∷ field Word (row_of s).sh_info
    ∷ address_field t (row_of s).sh_addralign ∷ address_field t (entry_size t s) ∷ []

-- a global function in the text has the info 18 and section 1, a global variable in the data 17 and section 3
abbrev pub info_of : Bool → ℕ
info_of func = if func then 18 else 17

abbrev pub place_of : Bool → ℕ
place_of func = if func then 1 else 3

-- name, info, other, section, address, size; in the 32-bit class the address and the size come second
unfoldable pub symbol_entry : Target → ℕ → Bool → ℕ → ℕ → List Field
symbol_entry Arm name func address size =
    field Word name ∷ field Word address ∷ field Word size ∷ field Byte (info_of func) ∷ field Byte 0 ∷ field Half (place_of func) ∷ []
symbol_entry Riscv64 name func address size =
    field Word name ∷ field Byte (info_of func) ∷ field Byte 0 ∷ field Half (place_of func) ∷ field Xword address ∷ field Xword size ∷ []
