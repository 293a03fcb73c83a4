use Rattle.bk_rewrite_laws.proofs.Visiting.{visit_grown}
use Rattle.bk_rewrite_laws.proofs.visits_keep_numbers.Goals as goal

pub returns : goal.returns
returns c = λ t rules f id g u x. (visit_grown t rules f id g u x).numbers
