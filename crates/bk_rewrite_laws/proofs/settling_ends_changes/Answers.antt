use Rattle.bk_rewrite_laws.proofs.Visiting.{settles_sooner}
use Rattle.bk_rewrite_laws.proofs.settling_ends_changes.Goals as goal

pub returns : goal.returns
returns c = λ t rules i f g h n. settles_sooner t rules n i f g h
