use Rattle.std.proofs.Common.{◌≡◌, take}
use Rattle.bk_graph.specs.Nodes.{control_by, control_places}
use Rattle.bk_graph.proofs.graph.controls.Given as goal

abbrev pub invariant-loop-block : goal.invariant-loop-block
invariant-loop-block l = l.controls.items ≡ control_places (control_by l.places) (take l.block-index l.blocks)
