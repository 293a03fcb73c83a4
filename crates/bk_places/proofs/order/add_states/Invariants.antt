use Rattle.std.proofs.Common.{take}
use Rattle.std.specs.List.{Contains}
use Rattle.bk_places.specs.Order.{Adds}
use Rattle.bk_places.proofs.order.add_states.Given as goal

abbrev pub invariant-loop-next : goal.invariant-loop-next
invariant-loop-next l = Adds l.fn.edges (λ p q. Contains (take l.next-index l.nexts) q × Contains l.users p) l.edges
