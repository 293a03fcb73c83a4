use Rattle.std.proofs.Common.{◌≡◌, take}
use Rattle.bk_graph.specs.Nodes.{place_by, succ_places}
use Rattle.bk_graph.proofs.graph.all_succs.Given as goal

abbrev pub invariant-loop-block : goal.invariant-loop-block
invariant-loop-block l = l.succs ≡ succ_places (place_by l.places) (take l.block-index l.blocks)
