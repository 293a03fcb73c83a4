use Rattle.bk_rv_run_laws.proofs.Ret.{ret_ends}
use Rattle.bk_rv_run_laws.proofs.returns_come_back.Goals as goal

pub returns : goal.returns
returns c = ret_ends
