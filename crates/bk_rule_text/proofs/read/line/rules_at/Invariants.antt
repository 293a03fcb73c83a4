use Rattle.std.proofs.Common.{◌≡◌, ◌-◌, map}
use Rattle.bk_rule_text.specs.Rules.{numbers_from}
use Rattle.bk_rule_text.specs.Texts.{rules_at}
use Rattle.bk_rule_text.specs.Views.{bit_of}
use Rattle.bk_rule_text.proofs.LineLoops.{behind}
use Rattle.bk_rule_text.proofs.read.line.rules_at.Given as goal

abbrev pub invariant-loop-place : goal.invariant-loop-place
invariant-loop-place l = behind l.rules.items (rules_at (map bit_of l.bits) (numbers_from l.place (l.count - l.place))) ≡ rules_at (map bit_of l.bits) (numbers_from 0 l.count)
