use Rattle.std.proofs.Common.{arith}
use Rattle.bk_rewrite_laws.proofs.Visiting.{outgrows_passes}
use Rattle.bk_rewrite_laws.proofs.changes_stay_within.Goals as goal

pub returns : goal.returns
returns c = λ t rules i f g n u x l y. (let o = outgrows_passes t rules n i f g u x y in omega (arith, l, o))
