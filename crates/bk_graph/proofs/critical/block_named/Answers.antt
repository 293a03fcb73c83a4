use Rattle.std.proofs.Common.{◌∙◌, sym, ap}
use Rattle.std.specs.List.{slice_get}
use Rattle.std.specs.Option.{option_and_then}
use Rattle.bk_graph.proofs.Firsts.{block_first}
use Rattle.bk_graph.proofs.Listed.{lent}
use Rattle.bk_graph.proofs.critical.block_named.Goals as goal

pub returns-in-Some : goal.returns-in-Some
returns-in-Some c =
    let bs = c.args.blocks.now in
    lent bs c.in-Some.place c.get.result c.get.ensures.lookup
    ∙ sym (block_first bs c.args.places.now c.args.number c.requires ∙ ap (option_and_then (slice_get bs)) (sym c.in-Some.ensures))

pub returns-in-None : goal.returns-in-None
returns-in-None c =
    let bs = c.args.blocks.now in
    sym (block_first bs c.args.places.now c.args.number c.requires ∙ ap (option_and_then (slice_get bs)) (sym c.in-None.ensures))
