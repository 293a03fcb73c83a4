use Rattle.std.proofs.Common.{◌≡◌}
use Rattle.bk_dump.specs.Generate.{functions_to}
use Rattle.bk_dump.proofs.generator.functions.Given as goal

abbrev pub invariant-loop-number : goal.invariant-loop-number
invariant-loop-number l = record {
  funcs : l.funcs.items ≡ (functions_to l.initial.draws.state l.number).0;
  state : l.draws.state ≡ (functions_to l.initial.draws.state l.number).1;
}
