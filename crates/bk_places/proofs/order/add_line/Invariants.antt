use Rattle.bk_places.specs.Order.{Adds}
use Rattle.bk_places.proofs.Adding.{FollowsBelow}
use Rattle.bk_places.proofs.order.add_line.Given as goal

abbrev pub invariant-loop-index : goal.invariant-loop-index
invariant-loop-index l = Adds l.fn.edges (FollowsBelow l.places l.index) l.edges
