use Rattle.std.proofs.Common.{◌∙◌, ap, ℕ, Vec, Global, map}
use Rattle.bk_live.specs.declared.rows.LiveValue.{LiveValue}
use Rattle.bk_live.specs.Rows.{values_of}
use Rattle.bk_live.proofs.Counting.{mapped_both}
use Rattle.bk_live.proofs.rows.Rows.values.Goals as goal

pub loop-row-preserved : goal.loop-row-preserved
loop-row-preserved c =
    mapped_both (λ (r : Vec LiveValue Global). r.items) values_of (λ (r : Vec ℕ Global). r.items) c.deref-row-items.result.now c.args.self.now c.loop-row.rows.items c.push.new.self.items
    c.loop-row.row-index c.row-item.result c.in_ok-values_of.field-0 (ap (map (λ (r : Vec LiveValue Global). r.items)) c.deref-row-items.ensures.value ∙ c.self.view_is) c.loop-row-test.true
    c.row-item.is c.loop-row.invariant (c.in_ok-values_of.ensures ∙ ap values_of c.deref.ensures.value) c.in_ok-push.ensures.items
