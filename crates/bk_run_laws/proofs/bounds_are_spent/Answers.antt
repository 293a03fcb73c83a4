use Rattle.bk_run_laws.proofs.Following.{enough}
use Rattle.bk_run_laws.proofs.bounds_are_spent.Goals as goal

pub returns : goal.returns
returns c = enough
