use Rattle.bk_work_laws.proofs.compiles_once.Goals as goal
use Rattle.bk_work_laws.proofs.Objects.{compiles_once}

pub returns : goal.returns
returns c = compiles_once
