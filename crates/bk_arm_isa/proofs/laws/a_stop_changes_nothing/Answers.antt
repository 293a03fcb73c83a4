use Rattle.bk_arm_isa.proofs.Steps.{step_stops}
use Rattle.bk_arm_isa.proofs.laws.a_stop_changes_nothing.Goals as goal

pub returns : goal.returns
returns c = step_stops
