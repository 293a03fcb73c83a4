use Rattle.std.proofs.Common.{◌≡◌, drop}
use Rattle.std.specs.List.{list_all}
use Rattle.bk_rule_text.specs.Texts.{stands}
use Rattle.bk_rule_text.proofs.read.line.all_stand.Given as goal

abbrev pub invariant-loop-rule : goal.invariant-loop-rule
invariant-loop-rule l = list_all (stands l.extra) (drop l.rule-index l.rules) ≡ list_all (stands l.extra) l.rules
