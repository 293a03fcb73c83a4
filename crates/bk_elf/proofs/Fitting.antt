-- The numbers of headers fit their fields.
use Rattle.std.proofs.Common.{ℕ, ◌^◌, ◌<◌, Bool, true, false, arith}
use Rattle.bk_ops.specs.declared.types.Target.{Target}
use Rattle.bk_ops.specs.declared.types.Target.TheVariants.{Arm, Riscv64}
use Rattle.bk_elf.specs.declared.tables.Row.{Row}
use Rattle.bk_elf.specs.declared.tables.Section.{Section}
use Rattle.bk_elf.specs.declared.tables.Section.TheVariants.{Null, Text, Pool, Data, Gosig, Symtab, Strtab, Shstrtab}
use Rattle.bk_elf.specs.Tables.{row_of, entry_size, file_header, program_header, section_header, symbol_entry}
use Rattle.bk_elf.specs.Object.{FitsAddress}
use Rattle.bk_elf.proofs.Bytes.{FitFields}

record SmallRow (r : Row) : Type 0 where
  name : r.sh_name < 2 ^ 32
  type : r.sh_type < 2 ^ 32
  flags : r.sh_flags < 2 ^ 32
  address : r.sh_addr < 2 ^ 32
  link : r.sh_link < 2 ^ 32
  info : r.sh_info < 2 ^ 32
  align : r.sh_addralign < 2 ^ 32
  segment : r.p_flags < 2 ^ 32

small_row : (s : Section) → SmallRow (row_of s)
small_row Null = record { name = omega arith; type = omega arith; flags = omega arith; address = omega arith; link = omega arith; info = omega arith; align = omega arith; segment = omega arith }
small_row Text = record { name = omega arith; type = omega arith; flags = omega arith; address = omega arith; link = omega arith; info = omega arith; align = omega arith; segment = omega arith }
small_row Pool = record { name = omega arith; type = omega arith; flags = omega arith; address = omega arith; link = omega arith; info = omega arith; align = omega arith; segment = omega arith }
small_row Data = record { name = omega arith; type = omega arith; flags = omega arith; address = omega arith; link = omega arith; info = omega arith; align = omega arith; segment = omega arith }
small_row Gosig = record { name = omega arith; type = omega arith; flags = omega arith; address = omega arith; link = omega arith; info = omega arith; align = omega arith; segment = omega arith }
small_row Symtab = record { name = omega arith; type = omega arith; flags = omega arith; address = omega arith; link = omega arith; info = omega arith; align = omega arith; segment = omega arith }
small_row Strtab = record { name = omega arith; type = omega arith; flags = omega arith; address = omega arith; link = omega arith; info = omega arith; align = omega arith; segment = omega arith }
small_row Shstrtab = record { name = omega arith; type = omega arith; flags = omega arith; address = omega arith; link = omega arith; info = omega arith; align = omega arith; segment = omega arith }

small_entry : (t : Target) (s : Section) → entry_size t s < 2 ^ 32
small_entry Arm Null = omega arith
small_entry Arm Text = omega arith
small_entry Arm Pool = omega arith
small_entry Arm Data = omega arith
small_entry Arm Gosig = omega arith
small_entry Arm Symtab = omega arith
small_entry Arm Strtab = omega arith
small_entry Arm Shstrtab = omega arith
small_entry Riscv64 Null = omega arith
small_entry Riscv64 Text = omega arith
small_entry Riscv64 Pool = omega arith
small_entry Riscv64 Data = omega arith
small_entry Riscv64 Gosig = omega arith
small_entry Riscv64 Symtab = omega arith
small_entry Riscv64 Strtab = omega arith
small_entry Riscv64 Shstrtab = omega arith

pub fits-file_header : (t : Target) (n : ℕ) → FitsAddress t n → FitFields (file_header t n)
unfolding file_header
fits-file_header Arm n h = (omega arith, (omega arith, (omega arith, (omega arith, (omega arith, (omega arith, (omega arith, (omega arith, (omega arith, (omega arith, (omega arith, (omega arith, (omega arith, (omega arith, (omega arith, (omega arith, (omega arith, (omega arith, (omega arith, (omega arith, (omega arith, (omega arith, (omega arith, (omega arith, (omega arith, tt)))))))))))))))))))))))))
fits-file_header Riscv64 n h = (omega arith, (omega arith, (omega arith, (omega arith, (omega arith, (omega arith, (omega arith, (omega arith, (omega arith, (omega arith, (omega arith, (omega arith, (omega arith, (omega arith, (omega arith, (omega arith, (omega arith, (omega arith, (omega arith, (omega arith, (omega arith, (omega arith, (omega arith, (omega arith, (omega arith, tt)))))))))))))))))))))))))

pub fits-program_header : (t : Target) (s : Section) (offset size : ℕ) → FitsAddress t offset → FitsAddress t size → FitFields (program_header t s offset size)
unfolding program_header
fits-program_header Arm s offset size a b = let r = small_row s in (omega arith, (omega arith, (omega arith, (omega arith, (omega arith, (omega arith, (omega arith, (omega arith, tt))))))))
fits-program_header Riscv64 s offset size a b = let r = small_row s in (omega arith, (omega arith, (omega arith, (omega arith, (omega arith, (omega arith, (omega arith, (omega arith, tt))))))))

pub fits-section_header : (t : Target) (s : Section) (offset size : ℕ) → FitsAddress t offset → FitsAddress t size → FitFields (section_header t s offset size)
unfolding section_header
fits-section_header Arm s offset size a b = let r = small_row s in let e = small_entry Arm s in (omega arith, (omega arith, (omega arith, (omega arith, (omega arith, (omega arith, (omega arith, (omega arith, (omega arith, (omega arith, tt))))))))))
fits-section_header Riscv64 s offset size a b = let r = small_row s in let e = small_entry Riscv64 s in (omega arith, (omega arith, (omega arith, (omega arith, (omega arith, (omega arith, (omega arith, (omega arith, (omega arith, (omega arith, tt))))))))))

pub fits-symbol_entry : (t : Target) (name : ℕ) (func : Bool) (address size : ℕ) → name < 2 ^ 32 → FitsAddress t address → FitsAddress t size → FitFields (symbol_entry t name func address size)
unfolding symbol_entry
fits-symbol_entry Arm name true address size a b d = (omega arith, (omega arith, (omega arith, (omega arith, (omega arith, (omega arith, tt))))))
fits-symbol_entry Arm name false address size a b d = (omega arith, (omega arith, (omega arith, (omega arith, (omega arith, (omega arith, tt))))))
fits-symbol_entry Riscv64 name true address size a b d = (omega arith, (omega arith, (omega arith, (omega arith, (omega arith, (omega arith, tt))))))
fits-symbol_entry Riscv64 name false address size a b d = (omega arith, (omega arith, (omega arith, (omega arith, (omega arith, (omega arith, tt))))))
