use Rattle.std.proofs.Common.{◌≡◌, [], length, map, take}
use Rattle.bk_graph.specs.Nodes.{place_by, edges_of, AreCounts}
use Rattle.bk_graph.proofs.graph.all_edges.Given as goal

abbrev pub invariant-loop-block : goal.invariant-loop-block
invariant-loop-block l = record {
  edges : l.edges ≡ map (edges_of (place_by l.places) l.blocks) (take l.block-index l.blocks);
  size : length l.ranks.items ≡ length l.blocks;
  none : AreCounts l.ranks.items [];
}
