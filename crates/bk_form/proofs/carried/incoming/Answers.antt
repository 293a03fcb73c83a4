use Rattle.std.proofs.Common.{◌∙◌, sym, subst, ℕ, arith}
use Rattle.bk_form.proofs.Sourcing.{Sourced, sourced_first, sourced_more, sourced_past, sourced_all}
use Rattle.bk_form.proofs.StateNames.{nothing_is}
use Rattle.bk_form.proofs.carried.incoming.Goals as goal

pub loop-at-init : goal.loop-at-init
loop-at-init c =
    sourced_first c.args.edges.now c.args.through.now c.len-nowhere.result c.args.chains.now c.args.reached.now c.len-nowhere.result c.in_ok-search.search.labels.items
    c.in_ok-search.search.reached.items c.len-nowhere.ensures c.in_ok-search.ensures.none c.in_ok-search.ensures.marks

pub loop-at-preserved-in_default : goal.loop-at-preserved-in_default
loop-at-preserved-in_default c =
    sourced_past c.args.edges.now c.args.through.now c.len-nowhere.result c.args.chains.now c.args.reached.now c.loop-at.at c.loop-at.search.labels.items c.loop-at.search.reached.items
    c.loop-at.invariant (sym c.source-source.ensures ∙ nothing_is c.source-source.result c.in_default.not-Some)

pub extend_all-requires-clause-size : goal.extend_all-requires-clause-size
extend_all-requires-clause-size c = c.loop-at.invariant.size ∙ sym c.requires

pub loop-at-preserved : goal.loop-at-preserved
loop-at-preserved c =
    sourced_more c.args.edges.now c.args.through.now c.len-nowhere.result c.args.chains.now c.args.reached.now c.loop-at.at c.in-Some.last c.loop-at.search.labels.items
    c.loop-at.search.reached.items c.extend_all.new.self.labels.items c.extend_all.new.self.reached.items c.behind.result.now c.loop-at.invariant
    (sym c.source-source.ensures ∙ c.in-Some.is) c.behind.ensures c.in_ok-extend_all.ensures.marks c.in_ok-extend_all.ensures.closed c.in_ok-extend_all.ensures.grows
    c.in_ok-extend_all.ensures.found

pub returns : goal.returns
returns c =
    sourced_all c.args.edges.now c.args.through.now c.args.chains.now c.args.reached.now c.loop-at.at c.loop-at.search.labels.items c.loop-at.search.reached.items
    (subst (λ (n : ℕ). Sourced c.args.edges.now c.args.through.now n c.args.chains.now c.args.reached.now c.loop-at.at c.loop-at.search.labels.items c.loop-at.search.reached.items)
    c.len-nowhere.ensures c.loop-at.invariant)
    (omega arith)
