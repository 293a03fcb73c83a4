use Rattle.std.proofs.Common.{◌≡◌, map}
use Rattle.bk_rule.specs.Trees.{var}
use Rattle.bk_rule_text.specs.Rules.{numbers_from}
use Rattle.bk_rule_text.proofs.read.whole.patterns.Given as goal

abbrev pub invariant-loop-place : goal.invariant-loop-place
invariant-loop-place l = l.args.items ≡ map var (numbers_from l.first l.place)
