use Rattle.bk_work_laws.proofs.one_object.Goals as goal
use Rattle.bk_work_laws.proofs.Objects.{one_object}

pub returns : goal.returns
returns c = one_object
