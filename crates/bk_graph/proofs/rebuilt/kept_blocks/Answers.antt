use Rattle.std.proofs.Common.{refl, ap, arith}
use Rattle.bk_graph.specs.Lists.{picked}
use Rattle.bk_graph.specs.Marks.{marked}
use Rattle.bk_graph.specs.Reads.{facts, tables_in}
use Rattle.bk_graph.specs.Rebuilt.{kept_block}
use Rattle.bk_graph.proofs.Standing.{picked_more}
use Rattle.bk_graph.proofs.rebuilt.kept_blocks.Goals as goal

pub loop-place-init : goal.loop-place-init
unfolding picked
loop-place-init c = c.new-kept.ensures.items

pub loop-place-preserved : goal.loop-place-preserved
loop-place-preserved c =
    let s = c.args.settled.now in
    let d = marked c.args.needed.now.needed.items in
    let i = c.loop-place.place in
    let b = c.index-blocks-place.result in
    picked_more (facts s).reached (kept_block (tables_in s) (facts s) d) c.args.blocks.now i b c.loop-place.kept.items c.push_block.new.kept.items ((facts s).reached i)
    (kept_block (tables_in s) (facts s) d i b) (omega arith) c.loop-place.invariant refl (ap (kept_block (tables_in s) (facts s) d i) c.index-blocks-place.is) c.in_ok-push_block.ensures
