use Rattle.std.proofs.Common.{◌∙◌, ap, inl}
use Rattle.bk_func.specs.Form.Parts.{KeepsControl}
use Rattle.bk_func.specs.declared.form.Place.TheVariants.{Block}
use Rattle.bk_form.proofs.Finding.{holds_more, holds_in, first_not, block_holds, block_not}
use Rattle.bk_form.proofs.control.first_broken.Goals as goal

pub is_kept-requires-clause-entry : goal.is_kept-requires-clause-entry
is_kept-requires-clause-entry c = λ later b entry. (c.loop-place.invariant.each 0 b later entry).block.entry entry

pub returns-then-not-is_kept : goal.returns-then-not-is_kept
returns-then-not-is_kept c =
    let same = c.deref-block-items.ensures.value ∙ ap (λ v. v.blocks) c.func.view_is in
    let b = c.block-item.result in
    let broken = c.if-not-is_kept.ensures in (
      b,
      first_not same c.loop-place.invariant b c.loop-place-test.true c.block-item.is (block_not (KeepsControl c.args.func.now) b broken),
      inl (broken, ap Block (ap (λ v. v.id) c.block.view_is)),
    )

pub loop-place-preserved : goal.loop-place-preserved
loop-place-preserved c =
    let same = c.deref-block-items.ensures.value ∙ ap (λ v. v.blocks) c.func.view_is in
    holds_more same c.loop-place.invariant c.block-item.result c.loop-place-test.true c.block-item.is
    (block_holds (KeepsControl c.args.func.now) c.block-item.result c.if-not-is_kept.ensures)

pub returns : goal.returns
returns c = holds_in (c.deref-block-items.ensures.value ∙ ap (λ v. v.blocks) c.func.view_is) c.loop-place.invariant c.loop-place-test.false
