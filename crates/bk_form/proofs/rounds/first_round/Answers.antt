use Rattle.std.proofs.Common.{◌∙◌, sym, ap}
use Rattle.bk_func.specs.Records.{BlockRecord, ValueRecord}
use Rattle.bk_func.specs.Form.Before.{Precedes}
use Rattle.bk_form.proofs.Finding.{holds_more, holds_in, found, not_found}
use Rattle.bk_form.proofs.Flowing.{item_in}
use Rattle.bk_form.proofs.rounds.first_round.Goals as goal

pub round_in-requires-clause-block : goal.round_in-requires-clause-block
round_in-requires-clause-block c =
    item_in (c.deref-blocks.ensures.value ∙ ap (λ v. v.blocks) c.func.view_is) c.loop-block.block-index c.block-item.result c.loop-block-test.true c.block-item.is

pub returns-then-is_some : goal.returns-then-is_some
returns-then-is_some c =
    let f = c.args.flow.now.scope.func.now in
    found (λ (b : BlockRecord). Unit {0}) (λ (b : BlockRecord) (v : ValueRecord). ¬ Precedes f b v v) f (c.deref-blocks.ensures.value ∙ ap (λ v. v.blocks) c.func.view_is)
    c.loop-block.invariant c.block-item.result c.loop-block-test.true c.block-item.is _ c.in_ok-fault.ensures (sym c.is_some.ensures ∙ c.if-is_some.true)

pub loop-block-preserved : goal.loop-block-preserved
loop-block-preserved c =
    let f = c.args.flow.now.scope.func.now in
    holds_more (c.deref-blocks.ensures.value ∙ ap (λ v. v.blocks) c.func.view_is) c.loop-block.invariant c.block-item.result c.loop-block-test.true c.block-item.is
    (not_found (λ (b : BlockRecord). Unit {0}) (λ (b : BlockRecord) (v : ValueRecord). ¬ Precedes f b v v) c.block-item.result _ c.in_ok-fault.ensures
    (sym c.is_some.ensures ∙ c.if-is_some.false))

pub returns : goal.returns
returns c = holds_in (c.deref-blocks.ensures.value ∙ ap (λ v. v.blocks) c.func.view_is) c.loop-block.invariant c.loop-block-test.false
