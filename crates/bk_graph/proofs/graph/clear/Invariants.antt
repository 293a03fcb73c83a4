use Rattle.std.proofs.Common.{◌≡◌, length}
use Rattle.bk_graph.specs.Nodes.{IsCleared}
use Rattle.bk_graph.proofs.graph.clear.Given as goal

abbrev pub invariant-loop-place : goal.invariant-loop-place
invariant-loop-place l = record {
  size : length l.ranks ≡ length l.initial.ranks;
  ranks : IsCleared l.ranks l.places l.place-index;
}
