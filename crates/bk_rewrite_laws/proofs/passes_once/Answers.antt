use Rattle.bk_rewrite_laws.proofs.Visiting.{same_pass}
use Rattle.bk_rewrite_laws.proofs.passes_once.Goals as goal

pub returns : goal.returns
returns c = λ t rules f g h n. same_pass t rules n f g h
