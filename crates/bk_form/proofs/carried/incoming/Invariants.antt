use Rattle.bk_form.proofs.Sourcing.{Sourced}
use Rattle.bk_form.proofs.carried.incoming.Given as goal

abbrev pub invariant-loop-at : goal.invariant-loop-at
invariant-loop-at l = Sourced l.edges l.through l.nowhere l.chains l.reached l.at l.search.labels.items l.search.reached.items
