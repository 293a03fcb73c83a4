use Rattle.bk_alloc_quality.proofs.Homeless.{no_slots}
use Rattle.bk_alloc_quality.proofs.slots_are_for_values.Goals as goal

pub returns : goal.returns
returns c = no_slots
