use Rattle.bk_rv_run_laws.proofs.Crossing.{ways_keep, edges_follow}
use Rattle.bk_rv_run_laws.proofs.edges_are_followed.Goals as goal

pub returns-clause-ways : goal.returns-clause-ways
returns-clause-ways c = ways_keep

pub returns-clause-edges : goal.returns-clause-edges
returns-clause-edges c = edges_follow
