use Rattle.std.proofs.Common.{◌≡◌, drop}
use Rattle.bk_rule_text.specs.Widths.{patterns_fit}
use Rattle.bk_rule_text.proofs.stands.width.+pattern.Given as goal

abbrev pub invariant-patterns_fit-loop-place : goal.invariant-patterns_fit-loop-place
invariant-patterns_fit-loop-place l = patterns_fit l.op l.place (drop l.place l.patterns) ≡ patterns_fit l.op 0 l.patterns
