use Rattle.std.proofs.Common.{◌≡◌, ◌++◌, drop, map}
use Rattle.bk_rule_text.specs.Groups.{expanded}
use Rattle.bk_rule_text.specs.Views.{bit_of}
use Rattle.bk_rule_text.proofs.read.group.expanded.Given as goal

abbrev pub invariant-loop-bit : goal.invariant-loop-bit
invariant-loop-bit l = l.text.items ++ expanded l.place (map bit_of (drop l.bit-index l.bits)) ≡ expanded l.place (map bit_of l.bits)
