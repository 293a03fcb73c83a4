use Rattle.bk_alloc_laws.proofs.Finds.{tasks_find}
use Rattle.bk_alloc_laws.proofs.values_find_arguments.Goals as goal

pub returns : goal.returns
returns c = tasks_find
