use Rattle.std.proofs.Common.{◌∙◌, ap, Some, None}
use Rattle.bk_func.specs.Edits.{nth_place}
use Rattle.bk_func.specs.Records.{BlockRecord}
use Rattle.bk_graph.specs.Nodes.{nth_succ}
use Rattle.bk_graph.proofs.Listed.{lent}
use Rattle.bk_graph.proofs.graph.nth_succ.Goals as goal

pub returns-in-Some : goal.returns-in-Some
returns-in-Some c =
    c.nth_place.ensures
    ∙ ap (nth_place c.args.to c.args.rank) (c.deref.ensures.value ∙ ap (λ (x : BlockRecord). x.succs) c.block.view_is)
    ∙ ap (λ o. nth_succ o c.args.to c.args.rank) (lent c.args.blocks.now c.args.from (Some c.in-Some.block) c.in-Some.ensures.lookup)

pub returns-in-None : goal.returns-in-None
returns-in-None c = ap (λ o. nth_succ o c.args.to c.args.rank) (lent c.args.blocks.now c.args.from None c.in-None.ensures.lookup)
