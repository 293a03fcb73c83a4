use Rattle.bk_fixup.specs.Rounds.{IsPart}
use Rattle.bk_fixup.proofs.sizes.lengthen.Given as goal

abbrev pub invariant-loop-place : goal.invariant-loop-place
invariant-loop-place l = IsPart l.branches l.initial.sizes l.sizes l.place l.count
