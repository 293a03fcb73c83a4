use Rattle.std.proofs.Common.{arith}
use Rattle.bk_num.proofs.Written.{rest_spells}
use Rattle.bk_num.proofs.windows.+number.Goals as goal

pub overflow_mul-result : goal.overflow_mul-result
overflow_mul-result t c =
    let h = rest_spells c.args.bytes.now c.number.result c.requires c.number.ensures.bound in
    omega (arith, h)

pub overflow_add-result : goal.overflow_add-result
overflow_add-result t c =
    let h = rest_spells c.args.bytes.now c.number.result c.requires c.number.ensures.bound in
    let b = c.type_inv.bytes 0 in
    omega (arith, h, b)
