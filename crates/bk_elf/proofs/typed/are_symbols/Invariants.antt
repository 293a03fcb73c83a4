use Rattle.std.proofs.Common.{◌<◌, ◌^◌, take}
use Rattle.std.specs.List.{All}
use Rattle.std.specs.Str.{IsUtf8}
use Rattle.bk_elf.proofs.typed.are_symbols.Given as goal

abbrev pub invariant-loop-symbol : goal.invariant-loop-symbol
invariant-loop-symbol l = record {
  sized : All (λ s. (s.address < 2 ^ 32) × (s.size < 2 ^ 32)) (take l.symbol-index l.symbols);
  texts : All (λ s. IsUtf8 s.name) (take l.symbol-index l.symbols);
}
