use Rattle.bk_mean.specs.Running.{NoneReady}
use Rattle.bk_mean.proofs.evaluate.none_ready.Given as goal

abbrev pub invariant-loop : goal.invariant-loop
invariant-loop l = NoneReady l.counter l.readies.items
