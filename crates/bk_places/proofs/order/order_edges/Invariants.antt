use Rattle.std.proofs.Common.{[], length, replicate}
use Rattle.bk_places.specs.Order.{Adds}
use Rattle.bk_places.specs.Search.{IsClear}
use Rattle.bk_places.proofs.Adding.{TakenBelow, BeforeBelow}
use Rattle.bk_places.proofs.order.order_edges.Given as goal

abbrev pub invariant-loop-place : goal.invariant-loop-place
invariant-loop-place l = Adds (replicate (length l.takes) []) (TakenBelow l.takes l.place) l.edges

abbrev pub invariant-loop-group : goal.invariant-loop-group
invariant-loop-group l = record {
  clear : IsClear (length l.takes) l.search;
  edges : Adds (replicate (length l.takes) []) (BeforeBelow l.takes l.lists l.group) l.edges;
}
