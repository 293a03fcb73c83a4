use Rattle.bk_places.proofs.Elements.{to_in}
use Rattle.bk_sched.proofs.Agreeing.{phis}
use Rattle.bk_sched.proofs.laws.puts_phis_first.Goals as goal

pub returns : goal.returns
returns c b zs pre post u v g e i phi = phis b b.values zs g pre v post e u (to_in u post i) phi
