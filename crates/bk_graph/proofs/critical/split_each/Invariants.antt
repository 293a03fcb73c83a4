use Rattle.std.proofs.Common.{◌≡◌, ◌+◌, ◌-◌, ◌<◌, ◌^◌, length, drop}
use Rattle.bk_func.specs.Edits.{greatest_block}
use Rattle.bk_graph.specs.Critical.{AreEdges, split_each}
use Rattle.bk_graph.proofs.critical.split_each.Given as goal

abbrev pub invariant-loop-edge : goal.invariant-loop-edge
invariant-loop-edge l = record {
  edges : AreEdges l.func l.edges;
  room : greatest_block l.func + (length l.edges - l.edge-index) < 2 ^ 32;
  split : split_each l.func (drop l.edge-index l.edges) ≡ split_each l.initial.func l.edges;
}
