use Rattle.std.proofs.Common.{◌<◌, length, arith, ap}
use Rattle.std.proofs.lemmas.Option.{IfSome_then}
use Rattle.std.proofs.lemmas.Result.{IfOk-weaker}
use Rattle.bk_rule.specs.Match.{orders}
use Rattle.bk_rewrite.proofs.Found.{chosen_found, none_found, chosen_written, chosen_second, none_second, none_then}
use Rattle.bk_rewrite.proofs.finding.+choose.Goals as goal

pub choose-returns-then-fits-clause-found : goal.choose-returns-then-fits-clause-found
choose-returns-then-fits-clause-found t c = λ u.
    let s = c.args.site.now in
    chosen_found s.target s.func.now c.args.rule.now c.stand.new.trail.binds.items c.deref.result.now c.new.result.items s.value c.stand.new.trail.used c.args.choices.now.items c.as_slice.result.now
    c.new.ensures.items c.as_slice.ensures.value c.deref.ensures.value (c.in_ok-stand.ensures.stands u c.in-Stands.is) c.requires (c.fits.ensures.holds c.if-fits.true) (c.fits.ensures.ints c.if-fits.true)

pub choose-returns-in-Stands-clause-none : goal.choose-returns-in-Stands-clause-none
choose-returns-in-Stands-clause-none t c = λ u n.
    let s = c.args.site.now in
    none_found s.target s.func.now c.args.rule.now c.stand.new.trail.binds.items c.deref.result.now c.new.result.items s.value c.stand.new.trail.used c.args.choices.now.items c.as_slice.result.now
    c.new.ensures.items c.as_slice.ensures.value c.deref.ensures.value (c.in_ok-stand.ensures.stands u c.in-Stands.is) (c.fits.ensures.fails c.if-fits.false)

pub choose-returns-in-Some-clause-found : goal.choose-returns-in-Some-clause-found
choose-returns-in-Some-clause-found t c = λ u.
    let s = c.args.site.now in
    let h = c.in_ok-binds-in-Asks.ensures.found u in
    chosen_written s.target s.func.now c.args.rule.now s.value c.args.choices.now.items c.choose_order.new.choices.items c.in-Some.binds.items (rw c.in-Some.is at h)

pub choose-returns-clause-found : goal.choose-returns-clause-found
choose-returns-clause-found t c = λ u.
    let s = c.args.site.now in
    let kept = c.in_ok-binds-in-Asks.ensures.kept in
    let none = c.in_ok-binds-in-Asks.ensures.none u in
    IfOk-weaker c.choose_order-in-None.result _ _
    (λ o h. IfSome_then o h (λ binds k. chosen_second s.target s.func.now c.args.rule.now s.value c.args.choices.now.items c.choose_order.new.choices.items c.choose_order-in-None.new.choices.items binds.items
    (rw c.in-None.is at kept) (λ n. (let m = none n in rw c.in-None.is at m)) k))
    (c.choose_order-in-None.ensures.found u)

pub choose-returns-clause-none : goal.choose-returns-clause-none
choose-returns-clause-none t c = λ u n.
    let s = c.args.site.now in
    let kept = c.in_ok-binds-in-Asks.ensures.kept in
    let none = c.in_ok-binds-in-Asks.ensures.none u n in
    let asks = c.in_ok-stand.ensures.asks c.in-Asks.is in
    let l : length c.args.choices.now.items < orders c.args.rule.now.left = omega (arith, asks, ap length c.as_slice.ensures.value) in
    IfOk-weaker c.choose_order-in-None.result _ _
    (λ o h. none_then o (λ k. none_second s.target s.func.now c.args.rule.now s.value c.args.choices.now.items c.choose_order.new.choices.items
    (rw c.in-None.is at kept) l (rw c.in-None.is at none) k) h)
    (c.choose_order-in-None.ensures.none u n)
