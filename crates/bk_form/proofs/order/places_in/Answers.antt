use Rattle.std.proofs.Common.{get_or}
use Rattle.std.proofs.lemmas.List.Elements.{Contains-get_or}
use Rattle.bk_form.proofs.Placing.{placed_none, placed_more, placed_all}
use Rattle.bk_form.proofs.order.places_in.Goals as goal

pub loop-id-init : goal.loop-id-init
loop-id-init c = placed_none c.args.flow.now.scope.func.now c.args.home c.args.ids.now c.new-places.result.items c.new-places.ensures.items

pub place_in-place-requires-clause-number : goal.place_in-place-requires-clause-number
place_in-place-requires-clause-number c = c.requires.ids (get_or c.args.ids.now c.loop-id.id-index 0) (Contains-get_or c.args.ids.now c.loop-id.id-index 0 c.loop-id-test.true)

pub loop-id-preserved : goal.loop-id-preserved
loop-id-preserved c =
    placed_more c.args.flow.now.scope.func.now c.args.home c.args.ids.now c.loop-id.id-index c.loop-id.places.items c.push_place.new.places.items c.place_in-place.result c.loop-id-test.true
    c.loop-id.invariant c.place_in-place.ensures c.in_ok-push_place.ensures

pub returns : goal.returns
returns c = placed_all c.args.flow.now.scope.func.now c.args.home c.args.ids.now c.loop-id.id-index c.loop-id.places.items c.loop-id-test.false c.loop-id.invariant
