use Rattle.std.proofs.Common.{◌<◌, length, get_or, arith}
use Rattle.bk_calls.specs.Areas.{numbered, area_block, made_in}
use Rattle.bk_calls.specs.Plans.{seen_plan}
use Rattle.bk_calls.proofs.Renumbered.{at_element, left_after, changed_next, changed_all}
use Rattle.bk_calls.proofs.areas.turn_blocks.Goals as goal

pub loop-block-preserved : goal.loop-block-preserved
loop-block-preserved c =
    let p = seen_plan c.args.plan.now in
    let xs = c.loop-block.blocks in
    let ys = c.args.blocks.now in
    let i = c.loop-block.block-index in
    let x = get_or xs i c.block-item.result in
    let y = c.turn_block.new.block in
    let before = c.loop-block.invariant in
    let is = c.in_ok-next.ensures in
    let l : i < length xs = omega arith in
    let k : i < length ys = omega arith in
    let e = at_element xs ys i c.block-item.result l k before.left in
    record {
      left = left_after xs ys i x y l k before.left;
      blocks = changed_next (area_block p) (made_in c.args.plan.now.registers) xs ys (numbered (area_block p) (made_in c.args.plan.now.registers) c.args.first ys) i c.loop-block.next c.in_ok-next.next x y l e
          is.block is.next before.blocks;
    }

pub returns : goal.returns
returns c =
    let p = seen_plan c.args.plan.now in
    let ys = c.args.blocks.now in
    changed_all (area_block p) (made_in c.args.plan.now.registers) c.loop-block.blocks ys (numbered (area_block p) (made_in c.args.plan.now.registers) c.args.first ys) c.loop-block.block-index c.loop-block.next
    (omega arith) (omega arith) c.loop-block.invariant.blocks
