use Rattle.bk_form.specs.Roots.{AreCopies}
use Rattle.bk_form.proofs.roots.copies.Given as goal

abbrev pub invariant-loop-place : goal.invariant-loop-place
invariant-loop-place l = AreCopies l.flow.scope.func.now l.place l.edges
