use Rattle.std.proofs.Common.{◌≡◌, take}
use Rattle.std.specs.List.{flat_map}
use Rattle.bk_form.specs.Edges.{edges_to}
use Rattle.bk_form.proofs.control.edges_to.Given as goal

abbrev pub invariant-loop-block : goal.invariant-loop-block
invariant-loop-block l = l.edges.items ≡ flat_map edges_to (take l.block-index l.blocks)
