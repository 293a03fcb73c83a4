use Rattle.std.proofs.Common.{◌∙◌, sym, ap, length, arith, Some, List, ℕ, Bor}
use Rattle.bk_rule.specs.declared.trees.Build.{Build}
use Rattle.bk_rule_text.specs.Builds.{build_at, build_in}
use Rattle.bk_rule_text.proofs.Loops.{bracket_ends, argument_fails, argument_goes_on, bracket_missing}
use Rattle.bk_rule_text.proofs.Reading.{read_as, erred, build_is}
use Rattle.bk_rule_text.proofs.read.build.+build.Goals as goal

pub build-returns : goal.build-returns
build-returns t c =
    let s = c.args.scope.now in
    let m = c.in_ok-inner.inner.left in
    read_as (λ x. (x.0, x.1.now)) c.build_in.result (build_in s m (build_at s m) c.args.text.now) (build_at s c.args.levels.left c.args.text.now)
    (build_is s c.args.levels.left m c.args.text.now c.in_ok-inner.ensures.ok)
    c.build_in.ensures

pub builds-returns-in-Some : goal.builds-returns-in-Some
builds-returns-in-Some t c =
    bracket_ends (build_at c.args.scope.now c.args.levels.left) (length c.args.text.now) c.loop-turn.turn c.loop-turn.args.items c.loop-turn.rest.now c.in-Some.rest.now _ c.loop-turn.invariant (omega arith) (sym c.in-Some.ensures)
    ∙ ap (λ xs. Some (xs, c.in-Some.rest.now)) (sym c.from_vec.ensures)

pub builds-returns-in_err-arg : goal.builds-returns-in_err-arg
builds-returns-in_err-arg t c =
    let read = build_at c.args.scope.now c.args.levels.left in
    erred {W = Build × Bor (List ℕ)} (λ x. (x.0, x.1.now)) (λ x. (x.0, x.1.now)) c.from_residual.result c.in_err-arg.field-0.0 (read c.loop-turn.rest.now) _ c.from_residual.ensures.1 c.in_err-arg.ensures
    (λ n. argument_fails read (length c.args.text.now) c.loop-turn.turn c.loop-turn.args.items c.loop-turn.rest.now _ c.loop-turn.invariant (omega arith) (sym c.in_default.ensures) n)

pub builds-loop-turn-preserved : goal.builds-loop-turn-preserved
builds-loop-turn-preserved t c =
    argument_goes_on (build_at c.args.scope.now c.args.levels.left) (length c.args.text.now) c.loop-turn.turn c.loop-turn.args.items c.push.new.self.items c.loop-turn.rest.now c.in_ok-arg.arg c.in_ok-arg.next.now _
    c.loop-turn.invariant (omega arith) (sym c.in_default.ensures) c.in_ok-arg.ensures c.in_ok-push.ensures.items

pub builds-returns : goal.builds-returns
builds-returns t c =
    bracket_missing (build_at c.args.scope.now c.args.levels.left) (length c.args.text.now) c.loop-turn.turn c.loop-turn.args.items c.loop-turn.rest.now _ c.loop-turn.invariant (omega arith)
