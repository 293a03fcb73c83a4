use Rattle.std.proofs.Common.{subst, List, Bool}
use Rattle.bk_rewrite.specs.Trials.{Chosen, NoneChosen}
use Rattle.bk_rewrite.proofs.finding.try_rule.Goals as goal

pub returns-in-Some-clause-found : goal.returns-in-Some-clause-found
returns-in-Some-clause-found c = λ u.
    let s = c.args.site.now in
    let h = c.in_ok-binds.ensures.found u in
    subst (λ (xs : List Bool). Chosen s.target s.func.now c.args.rule.now s.value xs c.in-Some.binds.items c.choose.new.choices.items) c.new-choices.ensures.items (rw c.in-Some.is at h)

pub returns-in-None-clause-none : goal.returns-in-None-clause-none
returns-in-None-clause-none c = λ u r n.
    let s = c.args.site.now in
    let h = c.in_ok-binds.ensures.none u n in
    subst (λ (xs : List Bool). NoneChosen s.target s.func.now c.args.rule.now s.value xs) c.new-choices.ensures.items (rw c.in-None.is at h)
