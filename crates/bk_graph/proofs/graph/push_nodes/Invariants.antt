use Rattle.std.proofs.Common.{◌≡◌, ◌++◌, map, take}
use Rattle.bk_graph.specs.Nodes.{node_at}
use Rattle.bk_graph.proofs.graph.push_nodes.Given as goal

abbrev pub invariant-loop-value : goal.invariant-loop-value
invariant-loop-value l = l.nodes.items ≡ l.initial.nodes.items ++ map (node_at l.block) (take l.value-index l.values)
