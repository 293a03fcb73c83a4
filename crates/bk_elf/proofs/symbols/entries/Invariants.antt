use Rattle.std.proofs.Common.{◌≡◌, ◌-◌, ◌*◌, ◌++◌, drop}
use Rattle.bk_elf.specs.Lists.{each}
use Rattle.bk_elf.specs.Loading.{entry_at}
use Rattle.bk_elf.proofs.symbols.entries.Given as goal

-- the symbols that are read and those that are left
abbrev pub invariant-loop-k : goal.invariant-loop-k
invariant-loop-k l = l.entries.items ++ each (entry_at l.target) l.size (l.count - l.k) (drop (l.size * l.k) l.bytes) ≡ each (entry_at l.target) l.size l.count l.bytes
