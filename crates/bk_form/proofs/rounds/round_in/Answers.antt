use Rattle.std.proofs.Common.{◌∙◌, ap}
use Rattle.bk_func.specs.Records.{BlockRecord, ValueRecord}
use Rattle.bk_func.specs.Form.Before.{Precedes}
use Rattle.bk_form.proofs.Finding.{holds_more, value_found, no_value}
use Rattle.bk_form.proofs.Flowing.{item_in}
use Rattle.bk_form.proofs.Used.{missed_is, kept_is}
use Rattle.bk_form.proofs.rounds.round_in.Goals as goal

pub returns-then-round : goal.returns-then-round
returns-then-round c =
    let f = c.args.flow.now.scope.func.now in
    let same = c.deref-value-items.ensures.value ∙ ap (λ v. v.values) c.block.view_is in
    let has = item_in same c.loop-value.value-index c.value-item.result c.loop-value-test.true c.value-item.is in
    value_found (λ (b : BlockRecord). Unit {0}) (λ (b : BlockRecord) (v : ValueRecord). ¬ Precedes f b v v) c.args.block.now same c.loop-value.invariant tt c.value-item.result
    c.loop-value-test.true c.value-item.is
    (λ free. free (missed_is _ _ _ c.if-round.true (c.in_ok-round.ensures c.args.block.now (c.requires.block, has)))) c.value.inside.id (ap (λ v. v.id) c.value.view_is)

pub loop-value-preserved : goal.loop-value-preserved
loop-value-preserved c =
    let same = c.deref-value-items.ensures.value ∙ ap (λ v. v.values) c.block.view_is in
    let has = item_in same c.loop-value.value-index c.value-item.result c.loop-value-test.true c.value-item.is in
    holds_more same c.loop-value.invariant c.value-item.result c.loop-value-test.true c.value-item.is
    (kept_is _ _ _ c.if-round.false (c.in_ok-round.ensures c.args.block.now (c.requires.block, has)))

pub returns : goal.returns
returns c =
    let f = c.args.flow.now.scope.func.now in
    no_value (λ (b : BlockRecord). Unit {0}) (λ (b : BlockRecord) (v : ValueRecord). ¬ Precedes f b v v) c.args.block.now
    (c.deref-value-items.ensures.value ∙ ap (λ v. v.values) c.block.view_is) c.loop-value.invariant tt c.loop-value-test.false
