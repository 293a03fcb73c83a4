use Rattle.std.proofs.Common.{◌∙◌, ap, Bool, List}
use Rattle.std.specs.Prelude.{slice_set, true}
use Rattle.bk_graph.specs.Reads.{facts, tables_in}
use Rattle.bk_graph.proofs.Ending.{found_first}
use Rattle.bk_graph.proofs.settled.Settled.first_found.Goals as goal

pub returns : goal.returns
returns c =
    found_first (tables_in c.args.self.now) (facts c.args.self.now) c.mark_first.new.found.items
    (c.mark_first.ensures ∙ ap (λ (xs : List Bool). slice_set xs 0 true) (c.in_ok-found.ensures.items_if_clones_equal (λ y k. k)))
