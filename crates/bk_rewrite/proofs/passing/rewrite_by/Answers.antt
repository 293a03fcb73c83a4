use Rattle.std.proofs.Common.{rules, arith, sym, ap, ◌∙◌, ◌+◌}
use Rattle.bk_func.specs.Records.{FuncRecord}
use Rattle.bk_rewrite.proofs.Turns.{settles, outgrows, changes_on}
use Rattle.bk_rewrite.proofs.Rounds.{refused_grown, changes_all}
use Rattle.bk_rewrite.proofs.passing.rewrite_by.Goals as goal

pub returns-then-not-passed-clause-settled : goal.returns-then-not-passed-clause-settled
returns-then-not-passed-clause-settled c = λ u.
    settles c.args.target c.args.rules.now c.loop-pass._pass (64 + c.args.func.given) c.args.func c.loop-pass.func c.try_pass.new.func (c.loop-pass.invariant.changes u)
    (omega (arith, ap (λ (w : FuncRecord). w.given) c.func.view_is)) (c.in-Ok.ensures.passed (c.loop-pass.invariant.counted u)) (c.in-Ok.ensures.unchanged (search rules))

pub returns-in-Err-clause-grown : goal.returns-in-Err-clause-grown
returns-in-Err-clause-grown c = λ u q.
    outgrows c.args.target c.args.rules.now c.loop-pass._pass (64 + c.args.func.given) c.args.func c.loop-pass.func (c.loop-pass.invariant.changes u)
    (omega (arith, ap (λ (w : FuncRecord). w.given) c.func.view_is)) (c.in-Err.ensures.exceeds (c.loop-pass.invariant.counted u) (refused_grown c.in-Err.stop (sym c.refusal.ensures ∙ q)))

pub loop-pass-preserved : goal.loop-pass-preserved
loop-pass-preserved c = record {
  room = c.in-Ok.ensures.room;
  counted = λ u. c.in-Ok.ensures.counted (c.loop-pass.invariant.counted u);
  changes = λ u. changes_on c.args.target c.args.rules.now c.loop-pass._pass c.args.func c.loop-pass.func c.try_pass.new.func (c.loop-pass.invariant.changes u)
      (c.in-Ok.ensures.passed (c.loop-pass.invariant.counted u)) (c.in-Ok.ensures.changed (search rules));
}

pub returns-clause-passes : goal.returns-clause-passes
returns-clause-passes c = λ u q.
    changes_all c.args.target c.args.rules.now c.loop-pass._pass (64 + c.args.func.given) c.args.func c.loop-pass.func (c.loop-pass.invariant.changes u)
    (omega (arith, ap (λ (w : FuncRecord). w.given) c.func.view_is, c.loop-pass.auto._pass-end))
