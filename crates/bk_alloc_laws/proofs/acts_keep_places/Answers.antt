use Rattle.bk_alloc_laws.proofs.Finds.{tasks_hold}
use Rattle.bk_alloc_laws.proofs.acts_keep_places.Goals as goal

pub returns : goal.returns
returns c = tasks_hold
