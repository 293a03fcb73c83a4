use Rattle.std.proofs.Common.{◌≡◌, drop, map}
use Rattle.bk_rule_text.specs.Groups.{first_count}
use Rattle.bk_rule_text.specs.Views.{bit_of}
use Rattle.bk_rule_text.proofs.read.group.first_count.Given as goal

abbrev pub invariant-loop-bit : goal.invariant-loop-bit
invariant-loop-bit l = first_count (map bit_of (drop l.bit-index l.bits)) ≡ first_count (map bit_of l.bits)
