use Rattle.std.proofs.Common.{◌∙◌, sym, ap}
use Rattle.std.proofs.lemmas.Bool.{false≢true}
use Rattle.bk_places.proofs.Filling.{item_at}
use Rattle.bk_form.proofs.Finding.{holds_in, holds_more}
use Rattle.bk_form.proofs.naming.init_in.Goals as goal

pub returns-then-is_init : goal.returns-then-is_init
returns-then-is_init c =
    let same = c.deref-value-items.ensures.value ∙ ap (λ v. v.values) c.block.view_is in (
      c.value-item.result,
      (
        c.loop-value.value-index,
        item_at same c.loop-value.value-index c.value-item.result c.loop-value-test.true c.value-item.is,
        c.is_init-is_init.ensures.0 c.if-is_init.true,
        c.loop-value.invariant.each,
      ),
      sym (ap (λ v. v.id) c.value.view_is),
    )

pub loop-value-preserved : goal.loop-value-preserved
loop-value-preserved c =
    holds_more (c.deref-value-items.ensures.value ∙ ap (λ v. v.values) c.block.view_is) c.loop-value.invariant c.value-item.result c.loop-value-test.true c.value-item.is
    (λ init. false≢true (sym c.if-is_init.false ∙ c.is_init-is_init.ensures.1 init))

pub returns : goal.returns
returns c = holds_in (c.deref-value-items.ensures.value ∙ ap (λ v. v.values) c.block.view_is) c.loop-value.invariant c.loop-value-test.false
