use Rattle.bk_refine_laws.proofs.RefineVisit.{visit_refines}
use Rattle.bk_refine_laws.proofs.a_visit_stands_for_what_was.Goals as goal

pub returns : goal.returns
returns c = visit_refines
