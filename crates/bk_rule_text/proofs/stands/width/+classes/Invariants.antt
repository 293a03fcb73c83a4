use Rattle.std.proofs.Common.{◌≡◌, ◌++◌, drop}
use Rattle.bk_rule_text.specs.Widths.{patterns_classes}
use Rattle.bk_rule_text.proofs.stands.width.+classes.Given as goal

abbrev pub invariant-note_patterns-loop-place : goal.invariant-note_patterns-loop-place
invariant-note_patterns-loop-place l = l.said.items ++ patterns_classes l.op l.place (drop l.place l.patterns) ≡ l.initial.said.items ++ patterns_classes l.op 0 l.patterns
