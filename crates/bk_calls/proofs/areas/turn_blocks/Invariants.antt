use Rattle.std.proofs.Common.{◌≡◌, ◌++◌, take, drop}
use Rattle.bk_calls.specs.Areas.{numbered, area_block, made_in}
use Rattle.bk_calls.specs.Plans.{seen_plan}
use Rattle.bk_calls.proofs.areas.turn_blocks.Given as goal

abbrev pub invariant-loop-block : goal.invariant-loop-block
invariant-loop-block l = record {
  left : drop l.block-index l.blocks ≡ drop l.block-index l.fn.blocks;
  blocks : take l.block-index l.blocks ++ numbered (area_block (seen_plan l.plan)) (made_in l.plan.registers) l.next (drop l.block-index l.fn.blocks)
      ≡ numbered (area_block (seen_plan l.plan)) (made_in l.plan.registers) l.first l.fn.blocks;
}
