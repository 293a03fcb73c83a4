use Rattle.std.proofs.Common.{◌≡◌, take}
use Rattle.bk_mean.specs.Ready.{AreReadyBlocks, count_values}
use Rattle.bk_mean.proofs.prepare.ready_blocks.Given as goal

abbrev pub invariant-loop-block : goal.invariant-loop-block
invariant-loop-block l = record { first : l.first ≡ count_values (take l.block-index l.func.blocks); blocks : AreReadyBlocks l.func l.func.blocks l.block-index l.list.items }
