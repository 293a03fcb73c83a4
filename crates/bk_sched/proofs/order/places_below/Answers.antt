use Rattle.bk_sched.proofs.Placing.{below_none, below_more, below_all}
use Rattle.bk_sched.proofs.order.places_below.Goals as goal

pub loop-id-init : goal.loop-id-init
loop-id-init c = below_none c.args.places.now.numbers.items c.args.ids.now c.args.count c.new-below.result.items c.new-below.ensures.items

pub loop-id-preserved : goal.loop-id-preserved
loop-id-preserved c =
    below_more c.args.places.now.numbers.items c.args.ids.now c.args.count c.loop-id.id-index c.loop-id.below.items c.push_below.new.places.items c.place-place.result c.loop-id-test.true
    c.loop-id.invariant c.place-place.ensures c.in_ok-push_below.ensures

pub returns : goal.returns
returns c = below_all c.args.places.now.numbers.items c.args.ids.now c.args.count c.loop-id.id-index c.loop-id.below.items c.loop-id-test.false c.loop-id.invariant
