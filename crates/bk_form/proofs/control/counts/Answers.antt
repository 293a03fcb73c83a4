use Rattle.std.proofs.Common.{◌∙◌, rules, arith, take, get_or}
use Rattle.std.proofs.lemmas.List.{length-take-le}
use Rattle.bk_form.specs.Edges.{times}
use Rattle.bk_form.proofs.Edges.{times_more, times_below}
use Rattle.bk_form.proofs.control.counts.Goals as goal

pub loop-edge-init : goal.loop-edge-init
unfolding times
loop-edge-init c = search rules

pub overflow_add-count : goal.overflow_add-count
overflow_add-count c =
    let i = c.loop-edge.edge-index in
    let x = get_or c.args.edges.now i (0, 0) in
    let short = times_below (take i c.args.edges.now) x in
    let long = length-take-le i c.args.edges.now (omega arith) in
    omega (arith, c.count_of-count.ensures ∙ c.loop-edge.invariant x, short, long)

pub loop-edge-preserved : goal.loop-edge-preserved
loop-edge-preserved c =
    times_more c.args.edges.now c.loop-edge.edge-index (0, 0) c.loop-edge.counts c.insert.new.self (omega arith) c.loop-edge.invariant
    (λ e. rw (← c.count_of-count.ensures) (c.in_ok-insert.ensures.updates.0 e))
