use Rattle.std.proofs.Common.{◌≡◌, map, take}
use Rattle.bk_func.specs.Records.{BlockRecord}
use Rattle.bk_form.specs.Walks.{block_places}
use Rattle.bk_form.proofs.flow.block_edges.Given as goal

abbrev pub invariant-loop-block : goal.invariant-loop-block
invariant-loop-block l = l.edges ≡ map (λ (b : BlockRecord). block_places l.func b.succs) (take l.block-index l.func.blocks)
