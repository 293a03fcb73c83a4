use Rattle.std.proofs.Common.{◌≤◌, length, arith}
use Rattle.bk_form.proofs.Rounding.{settles_more, settles_all}
use Rattle.bk_form.proofs.rounds.settles.Goals as goal

pub loop-place-init : goal.loop-place-init
loop-place-init c = λ p q l. absurd (omega arith)

pub loop-place-preserved : goal.loop-place-preserved
loop-place-preserved c =
    settles_more c.args.edges.now c.args.ranks.now c.loop-place.place c.loop-place.invariant c.rank-low.result c.rank-low.ensures c.behind.result.now c.behind.ensures
    (c.all_above-above.ensures c.if-not-above.false)

pub returns : goal.returns
returns c = λ t.
    let over : length c.args.edges.now ≤ c.loop-place.place = omega arith in
    settles_all c.args.edges.now c.args.ranks.now c.loop-place.place over c.loop-place.invariant
