use Rattle.std.proofs.Common.{◌≡◌, ◌-◌, ℕ, List}
use Rattle.bk_func.specs.Meaning.{Outcome}
use Rattle.bk_mean.specs.Running.{held, RunsTo}
use Rattle.bk_mean.proofs.evaluate.enter_blocks.Given as goal

abbrev pub invariant-loop : goal.invariant-loop
invariant-loop l = record {
  target : l.machine.target ≡ l.initial.machine.target;
  onward : (o : Outcome) (w : List ℕ) → RunsTo l.initial.machine.target l.pkg l.frames l.stack (l.bound - l.counter) l.readies.items (held l.machine) o w →
      RunsTo l.initial.machine.target l.pkg l.frames l.stack l.bound l.initial.readies.items (held l.initial.machine) o w;
}
