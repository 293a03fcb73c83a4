use Rattle.bk_form.proofs.Placing.{PlacedUpTo}
use Rattle.bk_form.proofs.order.places_in.Given as goal

abbrev pub invariant-loop-id : goal.invariant-loop-id
invariant-loop-id l = PlacedUpTo l.flow.scope.func.now l.home l.ids l.id-index l.places.items
