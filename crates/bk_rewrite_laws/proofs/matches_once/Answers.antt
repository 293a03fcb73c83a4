use Rattle.bk_rewrite_laws.proofs.Firsts.{matches_once}
use Rattle.bk_rewrite_laws.proofs.matches_once.Goals as goal

pub returns : goal.returns
returns c = λ t f rules id i j xs ys cs ds n. matches_once t f rules id n i j xs ys cs ds
