use Rattle.bk_form.proofs.Gathering.{DiffersUpTo}
use Rattle.bk_form.proofs.carried.differing.Given as goal

abbrev pub invariant-loop-at : goal.invariant-loop-at
invariant-loop-at l = DiffersUpTo l.edges l.chains l.reached l.noted l.at l.places.items
