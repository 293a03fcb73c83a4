use Rattle.std.proofs.Common.{◌∙◌, ap}
use Rattle.bk_live.specs.Homes.{place, with_place}
use Rattle.bk_live.proofs.Edging.{places_more}
use Rattle.bk_live.proofs.places.Places.find_all.Goals as goal

pub loop-number-preserved : goal.loop-number-preserved
loop-number-preserved c =
    places_more (place c.args.self.now) c.args.numbers.now c.loop-number.places.items c.push_place.new.places.items c.loop-number.number-index c.loop-number-test.true c.loop-number.invariant
    (c.in_ok-push_place.ensures ∙ ap (with_place c.loop-number.places.items) c.find.ensures)
