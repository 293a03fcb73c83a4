use Rattle.std.proofs.Common.{◌∙◌, ap, take, arith}
use Rattle.bk_func.specs.Records.{BlockRecord}
use Rattle.bk_alloc.specs.Outgoing.{calls}
use Rattle.bk_alloc.proofs.Outward.{more_blocks}
use Rattle.bk_alloc.proofs.outgoing.most_words.Goals as goal

pub loop-block-preserved : goal.loop-block-preserved
loop-block-preserved c =
    let i = c.loop-block.block-index in
    more_blocks c.args.target c.args.pkg.now.funcs c.args.blocks.now i c.block-item.result c.deref.result.now c.in_ok-most.most (omega arith) c.block-item.is
    (c.deref.ensures.value ∙ ap (λ (b : BlockRecord). b.values) c.block.view_is)
    (c.in_ok-most.ensures (calls (take i c.args.blocks.now)) c.loop-block.invariant)
