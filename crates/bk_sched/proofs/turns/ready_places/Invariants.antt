use Rattle.bk_sched.specs.Turns.{AreReady}
use Rattle.bk_sched.proofs.turns.ready_places.Given as goal

abbrev pub invariant-loop-place : goal.invariant-loop-place
invariant-loop-place l = AreReady l.scores l.waits l.place l.ready
