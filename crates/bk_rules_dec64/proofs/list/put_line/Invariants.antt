use Rattle.std.proofs.Common.{◌≡◌, ◌++◌, map, take}
use Rattle.bk_rules_dec64.specs.Lines.{family}
use Rattle.bk_rules_dec64.proofs.list.put_line.Given as goal

abbrev pub invariant-loop-width : goal.invariant-loop-width
invariant-loop-width l = l.rules.items ≡ l.initial.rules.items ++ map (family l.line.0) (take l.width-index l.width-items)
