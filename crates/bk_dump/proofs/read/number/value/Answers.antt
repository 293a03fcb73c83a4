use Rattle.std.proofs.Common.{arith, ◌∙◌}
use Rattle.bk_dump.proofs.Numbers.{digit_at, digit_is, value_more}
use Rattle.bk_dump.proofs.read.number.value.Goals as goal

pub overflow_sub-digit : goal.overflow_sub-digit
overflow_sub-digit c = (digit_is _ (digit_at c.args.digits.now c.loop-digit.digit-index c.requires (omega arith))).0

pub loop-digit-preserved : goal.loop-digit-preserved
loop-digit-preserved c =
    c.min-value.ensures ∙ value_more c.args.digits.now c.loop-digit.digit-index c.loop-digit.value c.from.result c.requires (omega arith) c.loop-digit.invariant c.from.ensures
