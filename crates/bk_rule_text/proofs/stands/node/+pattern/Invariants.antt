use Rattle.std.proofs.Common.{◌≡◌, drop}
use Rattle.std.specs.List.{list_all}
use Rattle.bk_rule_text.specs.Stands.{pattern_stands}
use Rattle.bk_rule_text.proofs.stands.node.+pattern.Given as goal

abbrev pub invariant-patterns_stand-loop-pattern : goal.invariant-patterns_stand-loop-pattern
invariant-patterns_stand-loop-pattern l = list_all pattern_stands (drop l.pattern-index l.patterns) ≡ list_all pattern_stands l.patterns
