use Rattle.bk_sched.proofs.Placing.{KnownUpTo}
use Rattle.bk_sched.proofs.places.numbers.Given as goal

abbrev pub invariant-loop-value : goal.invariant-loop-value
invariant-loop-value l = KnownUpTo l.block.values l.value-index l.numbers.items
