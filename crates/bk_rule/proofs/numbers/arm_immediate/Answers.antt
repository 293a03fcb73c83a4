use Rattle.std.proofs.Common.{arith, sym}
use Rattle.bk_rule.proofs.Powers.{no_byte}
use Rattle.bk_rule.proofs.numbers.arm_immediate.Goals as goal

pub returns : goal.returns
returns c = sym (no_byte c.loop-half.half c.args.n (omega arith) (omega arith) c.loop-half.invariant)
