use Rattle.std.proofs.Common.{arith, sym, ap, ◌∙◌, Some}
use Rattle.std.specs.Int.{w64}
use Rattle.std.proofs.lemmas.Int.{to_z-of_z, to_z_pos}
use Rattle.bk_rule.proofs.Powers.{is_log2, is_no_log2}
use Rattle.bk_rule.proofs.numbers.log2.Goals as goal

pub returns-then-bits-exponent : goal.returns-then-bits-exponent
returns-then-bits-exponent c =
    let f = to_z-of_z w64 c.args.x c.ranges.x in
    ap Some (to_z_pos w64 c.ilog2-exponent.result (omega (arith, c.ilog2-exponent.ensures.bound))) ∙
    sym (is_log2 c.args.x c.ilog2-exponent.result c.ranges.x (rw f at c.if-x-le0.false) c.ilog2-exponent.ensures.bound (rw f at c.if-bits-exponent.true))

pub returns-else-bits-exponent : goal.returns-else-bits-exponent
returns-else-bits-exponent c =
    let f = to_z-of_z w64 c.args.x c.ranges.x in
    sym (is_no_log2 c.args.x c.ilog2-exponent.result (rw f at c.if-x-le0.false) c.ilog2-exponent.ensures.bound
    (rw f at c.ilog2-exponent.ensures.power_le) (rw f at c.ilog2-exponent.ensures.next_power_gt) (rw f at c.if-bits-exponent.false))
