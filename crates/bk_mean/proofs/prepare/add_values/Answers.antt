use Rattle.std.proofs.Common.{◌+◌, ◌++◌, take, length, ◌<◌, arith, subst, sym}
use Rattle.bk_mean.specs.Ready.{AreReadyValues}
use Rattle.bk_mean.proofs.Prepared.{ready_more}
use Rattle.bk_mean.proofs.prepare.add_values.Goals as goal

pub loop-value-preserved : goal.loop-value-preserved
loop-value-preserved c = λ p f s n before all.
    let h : c.loop-value.value-index < length c.args.values.now = omega arith in
    subst (λ rs. AreReadyValues p f (before ++ take (c.loop-value.value-index + 1) c.args.values.now) rs) (sym c.in_ok-push.ensures.items)
    (ready_more p f before c.args.values.now c.loop-value.value-index c.value-item.result c.loop-value.list.items c.in_ok-ready_value.field-0 h c.value-item.is (c.loop-value.invariant p f s n before all) (c.in_ok-ready_value.ensures p f s n))
