use Rattle.std.proofs.Common.{◌≡◌, ◌++◌, map, drop}
use Rattle.bk_elf.specs.Loading.{symbols_of}
use Rattle.bk_elf.proofs.names.symbols.Given as goal

-- the symbols that are made and those that are left
abbrev pub invariant-loop-k : goal.invariant-loop-k
invariant-loop-k l =
    l.symbols.items ++ symbols_of (drop l.k l.entries) (map (λ n. n.now) (drop l.k l.names)) ≡ symbols_of l.entries (map (λ n. n.now) l.names)
