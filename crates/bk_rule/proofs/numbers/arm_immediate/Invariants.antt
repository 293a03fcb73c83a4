use Rattle.std.proofs.Common.{◌≡◌, false}
use Rattle.bk_rule.specs.Expressions.{rotated_byte}
use Rattle.bk_rule.proofs.numbers.arm_immediate.Given as goal

abbrev pub invariant-loop-half : goal.invariant-loop-half
invariant-loop-half l = rotated_byte l.half l.n ≡ false
