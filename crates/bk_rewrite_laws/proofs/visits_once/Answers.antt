use Rattle.bk_rewrite_laws.proofs.Visiting.{same_visit}
use Rattle.bk_rewrite_laws.proofs.visits_once.Goals as goal

pub returns : goal.returns
returns c = λ t rules f id g h n. same_visit t rules n f id g h
