use Rattle.bk_alloc_quality.proofs.Whole.{no_values_in_slots}
use Rattle.bk_alloc_quality.proofs.functions_load_nothing.Goals as goal

pub returns : goal.returns
returns c = no_values_in_slots
