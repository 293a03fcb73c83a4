use Rattle.std.proofs.Common.{length}
use Rattle.bk_places.proofs.Leaving.{left_of}
use Rattle.bk_sched.proofs.Turning.{State}
use Rattle.bk_sched.proofs.turns.in_turn.Given as goal

-- the turns so far, and the places that are ready
abbrev pub invariant-loop-next : goal.invariant-loop-next
invariant-loop-next l = State l.scores l.after l.order.items l.waits.items l.ready

-- the places that are left
abbrev pub decreases-loop-next : goal.decreases-loop-next
decreases-loop-next l = length (left_of (length l.scores) l.order.items)
