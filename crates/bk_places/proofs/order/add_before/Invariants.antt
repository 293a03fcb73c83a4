use Rattle.std.proofs.Common.{◌≡◌, take}
use Rattle.std.specs.List.{Contains}
use Rattle.bk_places.specs.Order.{Adds}
use Rattle.bk_places.proofs.order.add_before.Given as goal

abbrev pub invariant-loop-place : goal.invariant-loop-place
invariant-loop-place l = Adds l.fn.edges (λ p q. Contains (take l.place-index l.places) p × (q ≡ l.to)) l.edges
