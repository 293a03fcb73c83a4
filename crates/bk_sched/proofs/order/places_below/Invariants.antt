use Rattle.bk_sched.proofs.Placing.{BelowUpTo}
use Rattle.bk_sched.proofs.order.places_below.Given as goal

abbrev pub invariant-loop-id : goal.invariant-loop-id
invariant-loop-id l = BelowUpTo l.places.numbers.items l.ids l.count l.id-index l.below.items
