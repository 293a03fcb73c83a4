use Rattle.std.proofs.Common.{◌≡◌, ◌-◌, ◌*◌, drop}
use Rattle.std.specs.List.{list_all}
use Rattle.bk_elf.specs.Lists.{each}
use Rattle.bk_elf.specs.Loading.{is_entry}
use Rattle.bk_elf.proofs.symbols.are_entries.Given as goal

-- those that are left pass where all do
abbrev pub invariant-loop-k : goal.invariant-loop-k
invariant-loop-k l =
    list_all (λ b. b) (each (is_entry l.target l.text) l.size (l.count - l.k) (drop (l.size * l.k) l.bytes)) ≡ list_all (λ b. b) (each (is_entry l.target l.text) l.size l.count l.bytes)
