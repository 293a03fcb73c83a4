use Rattle.bk_places.proofs.Adding.{before_none, before_more, before_all}
use Rattle.bk_places.proofs.order.add_before.Goals as goal

pub loop-place-init : goal.loop-place-init
loop-place-init c = before_none c.args.edges.now c.args.places.now c.args.to

pub loop-place-preserved : goal.loop-place-preserved
loop-place-preserved c =
    before_more c.args.edges.now c.loop-place.edges c.add.new.self c.args.places.now c.loop-place.place-index c.args.to c.loop-place-test.true c.requires c.loop-place.invariant c.in_ok-add.ensures

pub returns : goal.returns
returns c = before_all c.args.edges.now c.loop-place.edges c.args.places.now c.loop-place.place-index c.args.to c.loop-place-test.false c.loop-place.invariant
