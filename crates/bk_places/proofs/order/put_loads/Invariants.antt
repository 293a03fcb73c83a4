use Rattle.std.proofs.Common.{take}
use Rattle.std.specs.List.{Contains}
use Rattle.bk_places.specs.Order.{Adds, IsLastBefore}
use Rattle.bk_places.proofs.order.put_loads.Given as goal

abbrev pub invariant-loop-load : goal.invariant-loop-load
invariant-loop-load l = Adds l.fn.edges (λ p q. Contains (take l.load-index l.loads) q × IsLastBefore l.takes l.checks p q) l.edges
