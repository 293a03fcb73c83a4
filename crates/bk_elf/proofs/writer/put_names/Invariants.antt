use Rattle.std.proofs.Common.{◌≡◌, ◌++◌, drop}
use Rattle.std.specs.List.{flat_map}
use Rattle.bk_elf.specs.Tables.{ended}
use Rattle.bk_elf.specs.Contents.{names_of}
use Rattle.bk_elf.proofs.writer.put_names.Given as goal

-- what is written and the names that are left
abbrev pub invariant-loop-symbol : goal.invariant-loop-symbol
invariant-loop-symbol l =
    l.out.items ++ flat_map ended (names_of (drop l.symbol-index l.symbols)) ≡ l.initial.out.items ++ flat_map ended (names_of l.symbols)
