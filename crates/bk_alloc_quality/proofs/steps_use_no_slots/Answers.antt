use Rattle.bk_alloc_quality.proofs.Whole.{steps_use_none}
use Rattle.bk_alloc_quality.proofs.steps_use_no_slots.Goals as goal

pub returns : goal.returns
returns c = steps_use_none
