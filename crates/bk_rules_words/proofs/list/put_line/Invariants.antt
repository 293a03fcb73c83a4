use Rattle.std.proofs.Common.{◌≡◌, ◌++◌, map, take}
use Rattle.bk_rules_words.specs.Lines.{rule_at}
use Rattle.bk_rules_words.proofs.list.put_line.Given as goal

abbrev pub invariant-loop-pair : goal.invariant-loop-pair
invariant-loop-pair l = l.rules.items ≡ l.initial.rules.items ++ map (rule_at l.line.0) (take l.pair-index l.pair-items)
