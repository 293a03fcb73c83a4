use Rattle.std.proofs.Common.{◌≡◌, ◌++◌, map, drop}
use Rattle.bk_elf.specs.Loading.{names_at}
use Rattle.bk_elf.proofs.names.names.Given as goal

-- the names that are read and those that are left
abbrev pub invariant-loop-k : goal.invariant-loop-k
invariant-loop-k l = map (λ n. n.now) l.names.items ++ names_at l.strtab l.size (drop l.k l.places) ≡ names_at l.strtab l.size l.places
