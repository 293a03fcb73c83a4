use Rattle.bk_rewrite.proofs.Rooted.{RootedBelow}
use Rattle.bk_rewrite.proofs.roots.places_of.Given as goal

abbrev pub invariant-loop-place : goal.invariant-loop-place
invariant-loop-place l = RootedBelow l.op l.rules l.place l.places.items
