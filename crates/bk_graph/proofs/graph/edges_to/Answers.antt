use Rattle.std.proofs.Common.{◌∙◌, sym, ap, subst, ℕ, ◌+◌, ◌++◌, List, length, get_or, take, length-set, append-nil, arith}
use Rattle.std.proofs.lemmas.List.{take_all}
use Rattle.bk_graph.specs.declared.graph.Edge.{Edge}
use Rattle.bk_graph.specs.Nodes.{AreCounts}
use Rattle.bk_graph.proofs.Ranking.{edges_last, index_is, counts_more, made_more}
use Rattle.bk_graph.proofs.graph.edges_to.Goals as goal

pub loop-from-preserved : goal.loop-from-preserved
loop-from-preserved c =
    let bs = c.args.blocks.now in
    let to = c.args.to in
    let ps = c.args.preds.now in
    let i = c.loop-from.from-index in
    let p : ℕ = get_or ps i 0 in
    let ranks = c.loop-from.ranks in
    let h = c.loop-from.invariant in
    record {
      made = made_more bs to ps i c.loop-from.edges.items c.push.new.self.items c.nth_succ.result (omega arith) h.made
          (c.nth_succ.ensures ∙ index_is bs to ranks (take i ps) p c.next_rank-rank.result h.size h.ranks c.next_rank-rank.ensures.rank) c.in_ok-push.ensures.items;
      size = ap (λ (xs : List ℕ). length xs) c.next_rank-rank.ensures.ranks ∙ length-set ranks p _ ∙ h.size;
      ranks = subst (λ (xs : List ℕ). AreCounts xs (take (i + 1) ps)) (sym c.next_rank-rank.ensures.ranks) (counts_more ranks ps i _ (omega arith) (omega arith) h.ranks);
    }

pub returns-clause-edges : goal.returns-clause-edges
returns-clause-edges c =
    let es = c.loop-from.edges.items in
    let ps = c.args.preds.now in
    let i = c.loop-from.from-index in
    sym (ap (λ (xs : List Edge). es ++ xs) (edges_last c.args.blocks.now c.args.to (take i ps) ps i (omega arith)) ∙ append-nil es) ∙ c.loop-from.invariant.made

pub returns-clause-ranks : goal.returns-clause-ranks
returns-clause-ranks c =
    subst (λ (xs : List ℕ). AreCounts c.loop-from.ranks xs) (take_all c.loop-from.from-index c.args.preds.now (omega arith)) c.loop-from.invariant.ranks
