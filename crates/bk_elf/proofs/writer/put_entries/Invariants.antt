use Rattle.std.proofs.Common.{◌≡◌, ◌+◌, ◌++◌, length, drop}
use Rattle.std.specs.List.{flat_map}
use Rattle.bk_elf.specs.Tables.{ended}
use Rattle.bk_elf.specs.Contents.{names_of, name_bytes, entry_bytes}
use Rattle.bk_elf.proofs.writer.put_entries.Given as goal

-- what is written and the symbols that are left, and where the next name begins
abbrev pub invariant-loop-symbol : goal.invariant-loop-symbol
invariant-loop-symbol l = record {
  left : l.out.items ++ entry_bytes l.target l.name (drop l.symbol-index l.symbols) ≡ l.initial.out.items ++ entry_bytes l.target 1 l.symbols;
  room : l.name + length (flat_map ended (names_of (drop l.symbol-index l.symbols))) ≡ length (name_bytes (names_of l.symbols));
}
