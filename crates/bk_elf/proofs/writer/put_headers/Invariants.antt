use Rattle.std.proofs.Common.{◌≡◌, ◌++◌, drop}
use Rattle.std.specs.List.{flat_map}
use Rattle.bk_elf.specs.Tables.{sections}
use Rattle.bk_elf.specs.File.{header_bytes}
use Rattle.bk_elf.proofs.writer.put_headers.Given as goal

-- what is written and the headers that are left
abbrev pub invariant-loop-section : goal.invariant-loop-section
invariant-loop-section l =
    l.out.items ++ flat_map (header_bytes l.target l.sizes) (drop l.section-index sections)
    ≡ l.initial.out.items ++ flat_map (header_bytes l.target l.sizes) sections
