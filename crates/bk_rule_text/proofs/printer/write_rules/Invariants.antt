use Rattle.std.proofs.Common.{◌≡◌, ◌++◌, drop, string_bytes}
use Rattle.bk_rule_text.specs.Layout.{rules_text}
use Rattle.bk_rule_text.proofs.printer.write_rules.Given as goal

abbrev pub invariant-loop-rule : goal.invariant-loop-rule
invariant-loop-rule l = string_bytes l.out ++ rules_text (drop l.rule-index l.rules) ≡ string_bytes l.initial.out ++ rules_text l.rules
