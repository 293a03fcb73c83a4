use Rattle.std.proofs.Common.{◌<◌, ◌==◌, length, position, IsSome, IfSome, sym, ◌∙◌, ap, subst}
use Rattle.bk_func.specs.Edits.{successor_in, rank_in}
use Rattle.bk_func.proofs.Blocks.{found_at}
use Rattle.bk_func.proofs.edits.edge.Goals as goal

pub edge_at-requires : goal.edge_at-requires
edge_at-requires c =
    subst (λ o. IfSome o (λ b. c.args.index < length b.succs))
    (found_at c.args.from c.args.blocks.now c.in-Some.place _ (sym c.place.ensures ∙ c.in-Some.is) c.index-blocks-place.is) c.requires.within

pub returns-clause-to : goal.returns-clause-to
returns-clause-to c =
    c.edge_at.ensures.to
    ∙ sym (ap (λ o. successor_in o c.args.index)
    (found_at c.args.from c.args.blocks.now c.in-Some.place _ (sym c.place.ensures ∙ c.in-Some.is) c.index-blocks-place.is))

pub returns-clause-rank : goal.returns-clause-rank
returns-clause-rank c =
    c.edge_at.ensures.rank
    ∙ sym (ap (λ o. rank_in o c.args.index)
    (found_at c.args.from c.args.blocks.now c.in-Some.place _ (sym c.place.ensures ∙ c.in-Some.is) c.index-blocks-place.is))

pub returns-clause-there : goal.returns-clause-there
returns-clause-there c =
    subst (λ n. IsSome (position (λ b. b.id == n) c.args.blocks.now)) (sym (returns-clause-to c)) c.requires.successor
