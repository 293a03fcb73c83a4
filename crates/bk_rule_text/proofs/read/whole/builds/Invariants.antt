use Rattle.std.proofs.Common.{◌≡◌, map}
use Rattle.bk_rule.specs.Trees.{named}
use Rattle.bk_rule_text.specs.Rules.{numbers_from}
use Rattle.bk_rule_text.proofs.read.whole.builds.Given as goal

abbrev pub invariant-loop-place : goal.invariant-loop-place
invariant-loop-place l = l.args.items ≡ map named (numbers_from l.first l.place)
