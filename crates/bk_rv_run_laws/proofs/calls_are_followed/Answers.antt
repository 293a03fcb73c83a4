use Rattle.bk_rv_run_laws.proofs.Opening.{calls_follow}
use Rattle.bk_rv_run_laws.proofs.calls_are_followed.Goals as goal

pub returns : goal.returns
returns c = calls_follow
