use Rattle.std.proofs.Common.{◌-◌, inl, refl}
use Rattle.std.proofs.lemmas.Result.{on_ok_weaker, IfErr-weaker}
use Rattle.bk_rewrite.specs.Places.{value_limit}
use Rattle.bk_rewrite.specs.Passes.{looked_through}
use Rattle.bk_rewrite.proofs.Turns.{looked, looked_visits, looked_stops}
use Rattle.bk_rewrite.proofs.passing.visit.Goals as goal

pub returns-in_default-clause-visits : goal.returns-in_default-clause-visits
returns-in_default-clause-visits c = λ k. inl (c.in_default.ensures, refl)

pub returns-clause-counted : goal.returns-clause-counted
returns-clause-counted c = λ k.
    let f = c.args.func.now in
    let lk = looked f c.look_through.new.func c.args.id c.in-Some.spot.block c.in-Some.spot.place c.args.counts.greatest (value_limit - c.args.counts.values) c.in-Some.ensures k c.in_ok-look_through.ensures in
    c.try_rules.ensures.counted (looked_through f lk.value) lk.here lk.counted

pub returns-clause-visits : goal.returns-clause-visits
returns-clause-visits c = λ k.
    let f = c.args.func.now in
    let lk = looked f c.look_through.new.func c.args.id c.in-Some.spot.block c.in-Some.spot.place c.args.counts.greatest (value_limit - c.args.counts.values) c.in-Some.ensures k c.in_ok-look_through.ensures in
    on_ok_weaker c.try_rules.result
    (looked_visits c.args.target c.args.ruled.now.rules.now f c.look_through.new.func c.try_rules.new.func c.args.id c.in-Some.spot.block c.in-Some.spot.place c.args.counts.greatest (value_limit - c.args.counts.values) lk)
    (c.try_rules.ensures.tries (looked_through f lk.value) lk.here lk.counted)

pub returns-clause-stops : goal.returns-clause-stops
returns-clause-stops c = λ k.
    let f = c.args.func.now in
    let lk = looked f c.look_through.new.func c.args.id c.in-Some.spot.block c.in-Some.spot.place c.args.counts.greatest (value_limit - c.args.counts.values) c.in-Some.ensures k c.in_ok-look_through.ensures in
    IfErr-weaker c.try_rules.result _ _
    (λ e h q. looked_stops c.args.target c.args.ruled.now.rules.now f c.look_through.new.func c.args.id c.in-Some.spot.block c.in-Some.spot.place c.args.counts.greatest (value_limit - c.args.counts.values) lk (h q))
    (c.try_rules.ensures.exceeds lk.counted)
