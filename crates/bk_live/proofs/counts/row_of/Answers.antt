use Rattle.std.proofs.Common.{◌≡◌, length, arith}
use Rattle.bk_live.proofs.Counting.{counted_more, counted_all}
use Rattle.bk_live.proofs.counts.row_of.Goals as goal

pub loop-number-preserved : goal.loop-number-preserved
loop-number-preserved c = λ f phis.
    counted_more f c.args.order.now c.loop-number.row.items c.push-in-loop-number.new.self.items c.loop-number.number-index c.loop-number.count c.in_ok-count.count c.loop-number-test.true
    (c.in_ok-count.ensures f phis) c.in_ok-push-2.ensures.items (c.loop-number.invariant f phis)

pub returns : goal.returns
returns c = λ f phis.
    let last : c.loop-number.number-index ≡ length c.args.order.now = omega (arith, c.loop-number.auto.number-index-end) in
    counted_all f c.args.order.now c.loop-number.row.items c.loop-number.number-index c.loop-number.count last (c.loop-number.invariant f phis)
