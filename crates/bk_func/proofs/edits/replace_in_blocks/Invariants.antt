use Rattle.std.proofs.Common.{◌≡◌, ◌++◌, map, take, drop}
use Rattle.bk_func.specs.Edits.{renamed_block}
use Rattle.bk_func.proofs.edits.replace_in_blocks.Given as goal

abbrev pub invariant-loop-block : goal.invariant-loop-block
invariant-loop-block l = l.blocks ≡ map (renamed_block l.old l.new) (take l.block-index l.fn.blocks) ++ drop l.block-index l.fn.blocks
