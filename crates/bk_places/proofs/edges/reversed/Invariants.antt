use Rattle.bk_places.proofs.Reversing.{ReversesUpTo}
use Rattle.bk_places.proofs.edges.reversed.Given as goal

abbrev pub invariant-loop-place : goal.invariant-loop-place
invariant-loop-place l = ReversesUpTo l.keys l.places l.place l.edges
