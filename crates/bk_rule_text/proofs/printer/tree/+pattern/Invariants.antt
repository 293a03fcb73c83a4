use Rattle.std.proofs.Common.{◌≡◌, ◌++◌, drop, string_bytes}
use Rattle.bk_rule_text.specs.Layout.{patterns_text}
use Rattle.bk_rule_text.proofs.printer.tree.+pattern.Given as goal

abbrev pub invariant-write_patterns-loop-pattern : goal.invariant-write_patterns-loop-pattern
invariant-write_patterns-loop-pattern l = string_bytes l.out ++ patterns_text (drop l.pattern-index l.patterns) ≡ string_bytes l.initial.out ++ patterns_text l.patterns
