use Rattle.std.proofs.Common.{◌≡◌, take}
use Rattle.std.specs.List.{flat_map}
use Rattle.bk_graph.specs.Critical.{critical_in}
use Rattle.bk_graph.proofs.critical.critical_edges.Given as goal

abbrev pub invariant-loop-block : goal.invariant-loop-block
invariant-loop-block l = l.edges.items ≡ flat_map (critical_in l.func.blocks) (take l.block-index l.func.blocks)
