use Rattle.std.proofs.Common.{◌≡◌, ◌++◌, drop}
use Rattle.bk_rule_text.specs.Stands.{patterns_sorts}
use Rattle.bk_rule_text.proofs.stands.sort.+pattern.Given as goal

abbrev pub invariant-note_patterns-loop-pattern : goal.invariant-note_patterns-loop-pattern
invariant-note_patterns-loop-pattern l = l.said.items ++ patterns_sorts (drop l.pattern-index l.patterns) ≡ l.initial.said.items ++ patterns_sorts l.patterns
