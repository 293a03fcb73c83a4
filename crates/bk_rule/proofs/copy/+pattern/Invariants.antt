use Rattle.std.proofs.Common.{◌≡◌, take}
use Rattle.bk_rule.proofs.copy.+pattern.Given as goal

abbrev pub invariant-copy_patterns-loop-pattern : goal.invariant-copy_patterns-loop-pattern
invariant-copy_patterns-loop-pattern l = l.copy.items ≡ take l.pattern-index l.patterns
