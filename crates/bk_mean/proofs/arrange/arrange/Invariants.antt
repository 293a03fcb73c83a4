use Rattle.std.proofs.Common.{map, length}
use Rattle.bk_places.proofs.Leaving.{left_of}
use Rattle.bk_mean.proofs.Arranging.{State}
use Rattle.bk_mean.proofs.arrange.arrange.Given as goal

-- what was filled, and the free places by when they are due
abbrev pub invariant-loop-last : goal.invariant-loop-last
invariant-loop-last l = State l.due (map (λ t. t.items) l.takes) l.order.items l.uses.items l.free

-- the places that are left
abbrev pub decreases-loop-last : goal.decreases-loop-last
decreases-loop-last l = length (left_of (length l.due) l.order.items)
