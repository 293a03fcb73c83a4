use Rattle.std.proofs.Common.{◌≡◌}
use Rattle.bk_dump.specs.Generate.{values_to}
use Rattle.bk_dump.proofs.generator.drawn_values.Given as goal

abbrev pub invariant-loop-place : goal.invariant-loop-place
invariant-loop-place l = record {
  values : l.values.items ≡ (values_to l.initial.draws.state l.place).0;
  state : l.draws.state ≡ (values_to l.initial.draws.state l.place).1;
}
