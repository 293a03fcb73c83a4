use Rattle.std.proofs.Common.{◌≡◌, ◌∙◌, ap, arith, map, option_map, Some, sym}
use Rattle.std.specs.List.{slice_get}
use Rattle.std.specs.Option.{option_copied}
use Rattle.std.proofs.lemmas.Option.{slice_get-map}
use Rattle.bk_alloc.specs.Names.{number_in}
use Rattle.bk_alloc.specs.Placing.{placed_with}
use Rattle.bk_alloc.proofs.Ending.{placed_more}
use Rattle.bk_alloc.proofs.Firsts.{lent}
use Rattle.bk_alloc.proofs.steps.placed_blocks.Goals as goal

pub loop-place-preserved : goal.loop-place-preserved
loop-place-preserved c =
    let ends = map (λ m. m.items) c.args.ends.now in
    let at : slice_get c.args.ends.now c.loop-place.place ≡ Some c.in-Some.moves.now = sym (lent c.args.ends.now c.loop-place.place c.get.result c.get.ensures.lookup) ∙ ap option_copied c.in-Some.is in
    let moves : slice_get ends c.loop-place.place ≡ Some c.in-Some.moves.now.items = slice_get-map (λ m. m.items) c.args.ends.now c.loop-place.place ∙ ap (option_map (λ m. m.items)) at in
    placed_more (number_in c.args.names.now) c.args.names.now.homes c.args.parts.now ends c.loop-place.place c.index-parts-place.result _ c.in_ok-placed_block.field-0 _
    c.push.new.self.items c.requires (omega arith) c.index-parts-place.is moves
    (c.in_ok-placed_block.ensures ∙ ap (placed_with (number_in c.args.names.now) c.args.names.now.homes c.index-parts-place.result) c.deref.ensures.value) c.loop-place.invariant c.in_ok-push.ensures.items
