use Rattle.bk_refine_laws.proofs.Refining.{stands_through}
use Rattle.bk_refine_laws.proofs.stands_for_all_before.Goals as goal

pub returns : goal.returns
returns c = stands_through
