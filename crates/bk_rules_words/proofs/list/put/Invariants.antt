use Rattle.std.proofs.Common.{◌≡◌, ◌++◌, take}
use Rattle.std.specs.List.{flat_map}
use Rattle.bk_rules_words.specs.Lines.{rules_of}
use Rattle.bk_rules_words.proofs.list.put.Given as goal

abbrev pub invariant-loop-line : goal.invariant-loop-line
invariant-loop-line l = l.rules.items ≡ l.initial.rules.items ++ flat_map rules_of (take l.line-index l.lines)
