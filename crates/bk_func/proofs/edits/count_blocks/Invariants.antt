use Rattle.std.proofs.Common.{◌≡◌, ◌%◌, sum_by, take}
use Rattle.bk_func.specs.Edits.{block_uses}
use Rattle.bk_func.proofs.edits.count_blocks.Given as goal

abbrev pub invariant-loop-block : goal.invariant-loop-block
invariant-loop-block l = l.uses ≡ sum_by (block_uses l.id) (take l.block-index l.blocks) % 18446744073709551616
