-- Where the parts of an object's file stand: the header, the program headers, each section at the first multiple of 8
-- after what stands before it, the names right behind the symbols, and the section headers.
use Rattle.std.specs.Prelude.{ℕ, ◌+◌, ◌*◌, ◌/◌}
use Rattle.bk_ops.specs.declared.types.Target.{Target}
use Rattle.bk_elf.specs.declared.tables.Section.{Section}
use Rattle.bk_elf.specs.declared.tables.Section.TheVariants.{Null, Text, Pool, Data, Gosig, Symtab, Strtab, Shstrtab}
use Rattle.bk_elf.specs.declared.layout.Sizes.{Sizes}
use Rattle.bk_elf.specs.declared.layout.Layout.{Layout}
use Rattle.bk_elf.specs.Tables.{class_of}

-- the first multiple of 8 from the place on
abbrev pub aligned : ℕ → ℕ
aligned n = (n + 7) / 8 * 8

abbrev pub size_of : Sizes → Section → ℕ
size_of z Null = 0
size_of z Text = z.text
size_of z Pool = z.pool
size_of z Data = z.window
size_of z Gosig = z.gosig
size_of z Symtab = z.symtab
size_of z Strtab = z.strtab
size_of z Shstrtab = 52

abbrev pub headers_end : Target → ℕ
headers_end t = (class_of t).e_ehsize + 3 * (class_of t).e_phentsize

-- where the sections begin
abbrev pub text_begin : Target → ℕ
text_begin t = aligned (headers_end t)

abbrev pub pool_begin : Target → Sizes → ℕ
pool_begin t z = aligned (text_begin t + z.text)

abbrev pub data_begin : Target → Sizes → ℕ
data_begin t z = aligned (pool_begin t z + z.pool)

abbrev pub gosig_begin : Target → Sizes → ℕ
gosig_begin t z = aligned (data_begin t z + z.window)

abbrev pub symtab_begin : Target → Sizes → ℕ
symtab_begin t z = aligned (gosig_begin t z + z.gosig)

abbrev pub strtab_begin : Target → Sizes → ℕ
strtab_begin t z = symtab_begin t z + z.symtab

abbrev pub shstrtab_begin : Target → Sizes → ℕ
shstrtab_begin t z = strtab_begin t z + z.strtab

-- where the section headers begin
abbrev pub e_shoff : Target → Sizes → ℕ
e_shoff t z = aligned (shstrtab_begin t z + 52)

abbrev pub layout_of : Target → Sizes → Layout
layout_of t z = record {
  text = text_begin t;
  pool = pool_begin t z;
  window = data_begin t z;
  gosig = gosig_begin t z;
  symtab = symtab_begin t z;
  strtab = strtab_begin t z;
  shstrtab = shstrtab_begin t z;
  e_shoff = e_shoff t z;
}

abbrev pub begin_in : Layout → Section → ℕ
begin_in l Null = 0
begin_in l Text = l.text
begin_in l Pool = l.pool
begin_in l Data = l.window
begin_in l Gosig = l.gosig
begin_in l Symtab = l.symtab
begin_in l Strtab = l.strtab
begin_in l Shstrtab = l.shstrtab

-- where what stands before a section ends
abbrev pub before : Target → Sizes → Section → ℕ
before t z Null = 0
before t z Text = headers_end t
before t z Pool = text_begin t + z.text
before t z Data = pool_begin t z + z.pool
before t z Gosig = data_begin t z + z.window
before t z Symtab = gosig_begin t z + z.gosig
before t z Strtab = strtab_begin t z
before t z Shstrtab = shstrtab_begin t z
