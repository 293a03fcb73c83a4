use Rattle.std.proofs.Common.{◌≡◌, ◌-◌}
use Rattle.bk_arm_isa.specs.Machine.{run}
use Rattle.bk_arm_sim.specs.View.{view}
use Rattle.bk_arm_sim.proofs.steps.run.Given as goal

abbrev pub invariant-loop-step : goal.invariant-loop-step
invariant-loop-step l = record {
  is : run (l.bound - l._step) (view l.machine) ≡ run l.bound (view l.fn.machine);
  sig : l.machine.sig ≡ l.fn.machine.sig;
}
