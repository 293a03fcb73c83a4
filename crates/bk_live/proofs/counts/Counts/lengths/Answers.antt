use Rattle.std.proofs.Common.{◌∙◌, ap, ℕ, Vec, Global, map}
use Rattle.bk_live.specs.Counts.{last_of, length_of, steps_between}
use Rattle.bk_live.proofs.Counting.{mapped_more}
use Rattle.bk_live.proofs.counts.Counts.lengths.Goals as goal

pub loop-row-preserved : goal.loop-row-preserved
loop-row-preserved c =
    mapped_more (λ (r : Vec ℕ Global). r.items) length_of c.deref-row-items.result.now c.args.self.now c.loop-row.lengths.items c.push.new.self.items c.loop-row.row-index c.row-item.result
    c.steps_between.result (ap (map (λ (r : Vec ℕ Global). r.items)) c.deref-row-items.ensures.value ∙ c.self.view_is) c.loop-row-test.true c.row-item.is c.loop-row.invariant
    (c.steps_between.ensures ∙ ap (steps_between 0) (c.last_of.ensures ∙ ap last_of c.deref.ensures.value)) c.in_ok-push.ensures.items
