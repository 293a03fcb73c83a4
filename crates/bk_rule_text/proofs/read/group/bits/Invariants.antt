use Rattle.std.proofs.Common.{◌≡◌, ◌++◌, ◌-◌, length, map}
use Rattle.bk_rule_text.specs.Groups.{bits_at}
use Rattle.bk_rule_text.specs.Views.{bit_of}
use Rattle.bk_rule_text.proofs.read.group.bits.Given as goal

abbrev pub invariant-loop-turn : goal.invariant-loop-turn
invariant-loop-turn l = map bit_of l.bits.items ++ bits_at (length l.line - l.turn) l.rest ≡ bits_at (length l.line) l.line
