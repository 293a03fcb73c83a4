use Rattle.std.proofs.Common.{arith, ◌<◌, ◌%◌}
use Rattle.std.proofs.Math.Nat.{mod-lt}
use Rattle.std.proofs.Math.Pow.{pow_mono}
use Rattle.bk_num.proofs.Powers.{turned_below}
use Rattle.bk_num.proofs.rotl.Goals as goal

pub overflow_add-result : goal.overflow_add-result
overflow_add-result c =
    let by : c.args.k % c.args.w < c.args.w = mod-lt c.args.k (omega arith) in
    omega (arith, turned_below c.args.w (c.args.k % c.args.w) c.args.x by, pow_mono {i = c.args.w} {j = 64} (omega arith), c.shl.ensures, c.shr.ensures)
