use Rattle.std.proofs.Common.{subst, ℕ}
use Rattle.bk_form.proofs.Rounding.{Begun, begun_first, begun_more, begun_all}
use Rattle.bk_form.proofs.rounds.leads_back.Goals as goal

pub loop-start-init : goal.loop-start-init
loop-start-init c =
    begun_first c.args.edges.now c.len-nowhere.result c.behind-starts.result.now c.len-nowhere.result c.in_ok-search.search.labels.items c.in_ok-search.search.reached.items c.len-nowhere.ensures
    c.in_ok-search.ensures.none c.in_ok-search.ensures.marks

pub loop-start-preserved : goal.loop-start-preserved
loop-start-preserved c =
    begun_more c.args.edges.now c.len-nowhere.result c.behind-starts.result.now c.loop-start.start-index c.args.place c.loop-start.search.labels.items c.loop-start.search.reached.items
    c.extend.new.self.labels.items c.extend.new.self.reached.items c.loop-start-test.true c.loop-start.invariant c.in_ok-extend.ensures.marks c.in_ok-extend.ensures.closed
    c.in_ok-extend.ensures.grows c.in_ok-extend.ensures.found

pub returns : goal.returns
returns c =
    let begun = subst (λ (n : ℕ). Begun c.args.edges.now n c.behind-starts.result.now c.loop-start.start-index c.loop-start.search.labels.items c.loop-start.search.reached.items)
    c.len-nowhere.ensures c.loop-start.invariant in
    let all = begun_all c.args.edges.now c.behind-starts.result.now c.loop-start.start-index c.loop-start.search.labels.items c.loop-start.search.reached.items c.args.place
    c.behind-starts.ensures c.loop-start-test.false begun in
    ((λ t. all.0 (c.is_reached.ensures.0 t)), (λ h. c.is_reached.ensures.1 (all.1 h)))
