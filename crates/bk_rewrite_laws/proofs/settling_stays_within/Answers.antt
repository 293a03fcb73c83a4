use Rattle.std.proofs.Common.{arith}
use Rattle.bk_rewrite_laws.proofs.Visiting.{outgrows_limit}
use Rattle.bk_rewrite_laws.proofs.settling_stays_within.Goals as goal

pub returns : goal.returns
returns c = λ t rules m i f g n u x l y. (let o = outgrows_limit t rules n m i f g u x y in omega (arith, l, o))
