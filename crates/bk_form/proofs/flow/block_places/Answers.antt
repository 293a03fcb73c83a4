use Rattle.std.proofs.Common.{◌∙◌, ap}
use Rattle.std.specs.List.{filter_map}
use Rattle.std.proofs.lemmas.List.{take_all}
use Rattle.bk_form.specs.Numbers.{block_named}
use Rattle.bk_form.proofs.Flowing.{chosen_more}
use Rattle.bk_form.proofs.flow.block_places.Goals as goal

pub loop-id-preserved : goal.loop-id-preserved
loop-id-preserved c =
    chosen_more (block_named c.args.numbers.now) c.args.ids.now c.loop-id.id-index c.loop-id.places.items c.push_place.new.places.items c.loop-id-test.true c.loop-id.invariant
    c.in_ok-push_place.ensures

pub returns : goal.returns
returns c = c.loop-id.invariant ∙ ap (filter_map (block_named c.args.numbers.now)) (take_all c.loop-id.id-index c.args.ids.now c.loop-id-test.false)
