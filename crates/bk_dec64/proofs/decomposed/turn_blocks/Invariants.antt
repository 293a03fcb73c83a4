use Rattle.std.proofs.Common.{◌≡◌, ◌++◌, take, drop}
use Rattle.bk_dec64.specs.Decomposed.{changed, listed, made_in, turned_block}
use Rattle.bk_dec64.specs.Named.{seen_plan}
use Rattle.bk_dec64.proofs.decomposed.turn_blocks.Given as goal

abbrev pub invariant-loop-block : goal.invariant-loop-block
invariant-loop-block l =
    let make = made_in (seen_plan l.plan) in
    let change = turned_block (seen_plan l.plan) in record {
      left : drop l.block-index l.blocks ≡ drop l.block-index l.fn.blocks;
      blocks : take l.block-index l.blocks ++ changed make change l.growth.next (drop l.block-index l.fn.blocks) ≡ changed make change l.initial.growth.next l.fn.blocks;
      made : l.growth.made.items ++ listed make l.growth.next (drop l.block-index l.fn.blocks) ≡ l.initial.growth.made.items ++ listed make l.initial.growth.next l.fn.blocks;
    }
