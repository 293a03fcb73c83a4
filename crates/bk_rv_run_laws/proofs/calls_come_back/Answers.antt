use Rattle.bk_rv_run_laws.proofs.Returning.{calls_return}
use Rattle.bk_rv_run_laws.proofs.calls_come_back.Goals as goal

pub returns : goal.returns
returns c = calls_return
