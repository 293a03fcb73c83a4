use Rattle.std.proofs.Common.{◌≡◌, ◌+◌, ◌≤◌, length}
use Rattle.bk_rule_text.specs.Texts.{lines, followed, rules_of_lines, rules_of}
use Rattle.bk_rule_text.proofs.read.text.read_rules.Given as goal

abbrev pub invariant-loop-rest : goal.invariant-loop-rest
invariant-loop-rest l = record {
  read : followed l.rules.items (rules_of_lines l.extra l.number (lines l.rest)) ≡ rules_of l.extra l.bytes;
  counted : l.number + length l.rest ≤ 1 + length l.bytes;
}

abbrev pub decreases-loop-rest : goal.decreases-loop-rest
decreases-loop-rest l = length l.rest
