use Rattle.bk_work_laws.proofs.gathers.Goals as goal
use Rattle.bk_work_laws.proofs.Objects.{gathers}

pub returns : goal.returns
returns c = gathers
