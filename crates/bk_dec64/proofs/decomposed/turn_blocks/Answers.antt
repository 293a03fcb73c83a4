use Rattle.std.proofs.Common.{◌<◌, ◌++◌, length, get_or, arith}
use Rattle.bk_dec64.specs.Decomposed.{changed, listed, made_in, turned_block}
use Rattle.bk_dec64.specs.Named.{seen_plan}
use Rattle.bk_dec64.proofs.Changed.{at_element, left_after, changed_next, changed_all, listed_next, listed_all}
use Rattle.bk_dec64.proofs.decomposed.turn_blocks.Goals as goal

pub loop-block-preserved : goal.loop-block-preserved
loop-block-preserved c =
    let make = made_in (seen_plan c.args.plan.now) in
    let change = turned_block (seen_plan c.args.plan.now) in
    let xs = c.loop-block.blocks in
    let ys = c.args.blocks.now in
    let i = c.loop-block.block-index in
    let n = c.loop-block.growth.next in
    let m = c.turn_block.new.growth.next in
    let first = c.args.growth.now.next in
    let x = get_or xs i c.block-item.result in
    let y = c.turn_block.new.block in
    let before = c.loop-block.invariant in
    let is = c.in_ok-turn_block.ensures in
    let l : i < length xs = omega arith in
    let k : i < length ys = omega arith in
    let e = at_element xs ys i c.block-item.result l k before.left in
    record {
      left = left_after xs ys i x y l k before.left;
      blocks = changed_next make change xs ys (changed make change first ys) i n m x y l e is.block is.next before.blocks;
      made = listed_next make ys c.loop-block.growth.made.items c.turn_block.new.growth.made.items (c.args.growth.now.made.items ++ listed make first ys) i n m x e is.made is.next before.made;
    }

pub returns-clause-blocks : goal.returns-clause-blocks
returns-clause-blocks c =
    let make = made_in (seen_plan c.args.plan.now) in
    let change = turned_block (seen_plan c.args.plan.now) in
    let ys = c.args.blocks.now in
    changed_all make change c.loop-block.blocks ys (changed make change c.args.growth.now.next ys) c.loop-block.block-index c.loop-block.growth.next
    (omega arith) (omega arith) c.loop-block.invariant.blocks

pub returns-clause-made : goal.returns-clause-made
returns-clause-made c =
    let make = made_in (seen_plan c.args.plan.now) in
    let ys = c.args.blocks.now in
    listed_all make ys c.loop-block.growth.made.items (c.args.growth.now.made.items ++ listed make c.args.growth.now.next ys) c.loop-block.block-index c.loop-block.growth.next
    (omega arith) c.loop-block.invariant.made
