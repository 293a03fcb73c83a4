use Rattle.std.proofs.Common.{◌≡◌, ◌∙◌, sym, ap, length, None, arith}
use Rattle.std.specs.Option.{option_and_then}
use Rattle.std.proofs.lemmas.Option.{same_Some}
use Rattle.bk_func.specs.Records.{BlockRecord}
use Rattle.bk_places.proofs.Filling.{filled_none, filled_more}
use Rattle.bk_form.specs.Numbers.{value_ids, sole}
use Rattle.bk_form.proofs.Flowing.{block_at}
use Rattle.bk_form.proofs.Remembered.{controls_all}
use Rattle.bk_form.proofs.memory.controls.Goals as goal

pub loop-block-init : goal.loop-block-init
loop-block-init c = filled_none _ None c.in_ok-controls.controls.items c.in_ok-controls.ensures.items

pub loop-block-preserved : goal.loop-block-preserved
loop-block-preserved c = let at = block_at c.args.flow.now.scope.func.now (c.deref-blocks.ensures.value ∙ ap (λ v. v.blocks) c.func.view_is) c.loop-block.block-index c.block-item.result c.loop-block-test.true c.block-item.is in
    filled_more c.loop-block.invariant c.control_place-control.result c.push.new.self.items
    (λ b eb. c.control_place-control.ensures ∙ ap (λ (x : BlockRecord). option_and_then (λ n. sole (value_ids c.args.flow.now.scope.func.now) n) x.control) (same_Some c.block-item.result b (sym at ∙ eb)))
    c.in_ok-push.ensures.items

pub returns : goal.returns
returns c = let f = c.args.flow.now.scope.func.now in
    let long : length c.deref-blocks.result.now ≡ length f.blocks = ap length (c.deref-blocks.ensures.value ∙ ap (λ v. v.blocks) c.func.view_is) in
    controls_all f c.loop-block.controls.items c.loop-block.block-index (omega (arith, long)) c.loop-block.invariant
