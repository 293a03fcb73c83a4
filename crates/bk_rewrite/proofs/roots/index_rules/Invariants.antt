use Rattle.bk_rewrite.proofs.Rooted.{PartsBelow}
use Rattle.bk_rewrite.proofs.roots.index_rules.Given as goal

abbrev pub invariant-loop-part : goal.invariant-loop-part
invariant-loop-part l = PartsBelow l.rules l.part l.parts.items
