use Rattle.bk_sched.specs.Named.{AreCopies}
use Rattle.bk_sched.proofs.named.copies.Given as goal

abbrev pub invariant-loop-place : goal.invariant-loop-place
invariant-loop-place l = AreCopies l.block.values l.places.numbers.items l.place l.edges
