use Rattle.bk_places.proofs.Elements.{to_contains, to_in}
use Rattle.bk_sched.proofs.Keeping.{in_scheduled, keeps}
use Rattle.bk_sched.proofs.laws.keeps_the_order.Goals as goal

pub returns-clause-own : goal.returns-clause-own
returns-clause-own c b zs v g i = to_contains v b.values (in_scheduled b b.values zs g v (to_in v zs i))

pub returns-clause-order : goal.returns-clause-order
returns-clause-order c b zs pre post u v g e i = keeps b b.values zs g pre v post e u (to_in u post i)
