use Rattle.std.proofs.Common.{◌≡◌, ◌++◌, length, drop}
use Rattle.bk_graph.specs.Nodes.{nodes_from, offsets_from}
use Rattle.bk_graph.proofs.graph.list_nodes.Given as goal

abbrev pub invariant-loop-place : goal.invariant-loop-place
invariant-loop-place l = record {
  nodes : l.nodes.items ++ nodes_from l.place (drop l.place l.blocks) ≡ l.initial.nodes.items ++ nodes_from 0 l.blocks;
  offsets : l.offsets.items ++ offsets_from (length l.nodes.items) (drop l.place l.blocks) ≡ offsets_from (length l.initial.nodes.items) l.blocks;
}
