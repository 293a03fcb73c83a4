use Rattle.std.proofs.Common.{◌-◌, ◌+◌, ◌∙◌, sym, ap, arith}
use Rattle.bk_rv_isa.specs.Machine.{step, run, go_on}
use Rattle.bk_rv_sim.specs.View.{view, ended}
use Rattle.bk_machine.proofs.Running.{run_more}
use Rattle.bk_rv_sim.proofs.steps.run.Goals as goal

pub returns-in-Some-clause-state : goal.returns-in-Some-clause-state
returns-in-Some-clause-state c =
    ap (λ g. ended (go_on g (run (c.args.bound - (c.loop-step._step + 1))))) c.in-Some.ensures.state
    ∙ ap ended (sym (run_more step c.args.bound c.loop-step._step (view c.loop-step.machine) (omega arith)) ∙ c.loop-step.invariant.is)

pub loop-step-preserved : goal.loop-step-preserved
loop-step-preserved c = record {
  is = ap (λ g. go_on g (run (c.args.bound - (c.loop-step._step + 1)))) c.in_default.ensures.state
      ∙ sym (run_more step c.args.bound c.loop-step._step (view c.loop-step.machine) (omega arith))
      ∙ c.loop-step.invariant.is;
  sig = c.in_default.ensures.sig ∙ c.loop-step.invariant.sig;
}
