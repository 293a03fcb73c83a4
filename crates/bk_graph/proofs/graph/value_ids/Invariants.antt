use Rattle.std.proofs.Common.{◌≡◌, take}
use Rattle.bk_graph.specs.Nodes.{value_ids}
use Rattle.bk_graph.proofs.graph.value_ids.Given as goal

abbrev pub invariant-loop-node : goal.invariant-loop-node
invariant-loop-node l = l.ids.items ≡ value_ids (take l.node-index l.nodes)
