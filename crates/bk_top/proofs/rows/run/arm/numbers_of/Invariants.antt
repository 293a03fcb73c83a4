use Rattle.std.proofs.Common.{◌≡◌}
use Rattle.bk_arm_sim.specs.Results.{result_of}
use Rattle.bk_arm_sim.specs.View.{view}
use Rattle.bk_top.specs.Outcomes.{first_numbers}
use Rattle.bk_top.proofs.rows.run.arm.numbers_of.Given as goal

abbrev pub invariant-loop-index : goal.invariant-loop-index
invariant-loop-index l = l.numbers.items ≡ first_numbers (result_of (view l.machine) l.machine.sig) l.index
