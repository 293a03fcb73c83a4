use Rattle.bk_rewrite_laws.proofs.Visiting.{same_end}
use Rattle.bk_rewrite_laws.proofs.settles_once.Goals as goal

pub returns : goal.returns
returns c = λ t rules i j f g h n. same_end t rules n i j f g h
