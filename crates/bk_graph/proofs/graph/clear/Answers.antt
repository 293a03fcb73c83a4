use Rattle.std.proofs.Common.{◌∙◌, sym, refl, ap, subst, List, ℕ, ◌+◌, length, length-set, arith}
use Rattle.bk_graph.specs.Nodes.{IsCleared}
use Rattle.bk_graph.proofs.Ranking.{cleared_none, cleared_more, cleared_all}
use Rattle.bk_graph.proofs.graph.clear.Goals as goal

pub loop-place-init : goal.loop-place-init
loop-place-init c = record { size = refl; ranks = cleared_none c.args.ranks.now c.args.places.now c.requires }

pub loop-place-preserved : goal.loop-place-preserved
loop-place-preserved c =
    let ps = c.args.places.now in
    let i = c.loop-place.place-index in
    let ranks = c.loop-place.ranks in
    record {
      size = ap (λ (xs : List ℕ). length xs) c.put_zero.ensures ∙ length-set ranks _ 0 ∙ c.loop-place.invariant.size;
      ranks = subst (λ (xs : List ℕ). IsCleared xs ps (i + 1)) (sym c.put_zero.ensures) (cleared_more ranks ps i (omega arith) c.loop-place.invariant.ranks);
    }

pub returns-clause-none : goal.returns-clause-none
returns-clause-none c = cleared_all c.loop-place.ranks c.args.places.now c.loop-place.place-index (omega arith) c.loop-place.invariant.ranks
