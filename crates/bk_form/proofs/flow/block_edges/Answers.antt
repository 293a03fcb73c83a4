use Rattle.std.proofs.Common.{◌∙◌, ap}
use Rattle.bk_form.proofs.Flowing.{edges_more, edges_all}
use Rattle.bk_form.proofs.flow.block_edges.Goals as goal

pub loop-block-preserved : goal.loop-block-preserved
loop-block-preserved c =
    edges_more c.args.func.now c.args.numbers.now c.requires c.loop-block.block-index c.loop-block.edges c.push.new.self
    (c.deref-block-items.ensures.value ∙ ap (λ v. v.blocks) c.func.view_is) c.block-item.result c.loop-block-test.true c.block-item.is
    c.deref-succs.result.now _ (c.deref-succs.ensures.value ∙ ap (λ v. v.succs) c.block.view_is) c.in_ok-places.ensures c.loop-block.invariant c.in_ok-push.ensures

pub returns : goal.returns
returns c =
    edges_all c.args.func.now c.loop-block.block-index c.loop-block.edges (c.deref-block-items.ensures.value ∙ ap (λ v. v.blocks) c.func.view_is) c.loop-block-test.false
    c.loop-block.invariant
