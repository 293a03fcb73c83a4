use Rattle.bk_sched.proofs.Placing.{OwnUpTo}
use Rattle.bk_sched.proofs.own.are_own.Given as goal

abbrev pub invariant-loop-place : goal.invariant-loop-place
invariant-loop-place l = OwnUpTo l.block.values l.places.numbers.items l.place
