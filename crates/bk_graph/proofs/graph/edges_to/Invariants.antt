use Rattle.std.proofs.Common.{◌≡◌, [], ◌++◌, length, take, drop}
use Rattle.bk_graph.specs.Nodes.{edges_behind, AreCounts}
use Rattle.bk_graph.proofs.graph.edges_to.Given as goal

abbrev pub invariant-loop-from : goal.invariant-loop-from
invariant-loop-from l = record {
  made : l.edges.items ++ edges_behind l.blocks l.to (take l.from-index l.preds) (drop l.from-index l.preds) ≡ edges_behind l.blocks l.to [] l.preds;
  size : length l.ranks ≡ length l.blocks;
  ranks : AreCounts l.ranks (take l.from-index l.preds);
}
