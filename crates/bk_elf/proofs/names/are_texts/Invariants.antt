use Rattle.std.proofs.Common.{◌≡◌, drop}
use Rattle.bk_elf.proofs.Naming.{texts_named}
use Rattle.bk_elf.proofs.names.are_texts.Given as goal

-- the names that are left are texts where all are
abbrev pub invariant-loop-name : goal.invariant-loop-name
invariant-loop-name l = texts_named (drop l.name-index l.names) ≡ texts_named l.names
