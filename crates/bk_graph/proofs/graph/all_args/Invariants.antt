use Rattle.std.proofs.Common.{◌≡◌, take}
use Rattle.bk_graph.specs.Nodes.{place_by, arg_places}
use Rattle.bk_graph.proofs.graph.all_args.Given as goal

abbrev pub invariant-loop-node : goal.invariant-loop-node
invariant-loop-node l = l.args ≡ arg_places (place_by l.places) (take l.node-index l.nodes)
