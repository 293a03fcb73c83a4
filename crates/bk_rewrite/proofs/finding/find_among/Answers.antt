use Rattle.std.proofs.Common.{arith}
use Rattle.bk_rewrite.proofs.Found.{first_rule}
use Rattle.bk_rewrite.proofs.finding.find_among.Goals as goal

pub returns-in-Some-clause-found : goal.returns-in-Some-clause-found
returns-in-Some-clause-found c = λ u.
    let s = c.args.site.now in
    let h = c.in_ok-binds.ensures.found u in
    first_rule s.target s.func.now c.args.rules.now s.value c.loop-place.place c.index-rules-place.result c.in-Some.field-0.binds.items c.in-Some.field-0.choices.items
    (omega arith) c.index-rules-place.is (rw c.in-Some.is at h) (c.loop-place.invariant u)
