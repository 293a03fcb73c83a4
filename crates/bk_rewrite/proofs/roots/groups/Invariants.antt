use Rattle.bk_rewrite.specs.Roots.{Grouped}
use Rattle.bk_rewrite.proofs.roots.groups.Given as goal

abbrev pub invariant-loop-rule : goal.invariant-loop-rule
invariant-loop-rule l = Grouped l.part l.rules l.rule-index l.groups.items
