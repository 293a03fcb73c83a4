use Rattle.std.proofs.Common.{◌≡◌, ◌≤◌, drop}
use Rattle.bk_elf.specs.Functions.{function_in, function_of}
use Rattle.bk_elf.proofs.functions.found.Given as goal

abbrev pub invariant-loop-symbol : goal.invariant-loop-symbol
invariant-loop-symbol l = record {
  is : function_in (drop l.symbol-index l.image.symbols) (drop l.place l.image.sigs) l.name ≡ function_of l.image l.name;
  few : l.place ≤ l.symbol-index;
}
