use Rattle.bk_rv_run_laws.proofs.Starting.{packages_run}
use Rattle.bk_rv_run_laws.proofs.packages_run.Goals as goal

pub returns : goal.returns
returns c = packages_run
