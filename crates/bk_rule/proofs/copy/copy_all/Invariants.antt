use Rattle.std.proofs.Common.{◌≡◌, take}
use Rattle.bk_rule.proofs.copy.copy_all.Given as goal

abbrev pub invariant-loop-rule : goal.invariant-loop-rule
invariant-loop-rule l = l.copy.items ≡ take l.rule-index l.rules
