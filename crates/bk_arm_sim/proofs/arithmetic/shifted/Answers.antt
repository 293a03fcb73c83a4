use Rattle.std.proofs.Common.{arith, ◌-◌, ◌%◌, ◌<◌}
use Rattle.bk_num.proofs.Powers.{turned_below}
use Rattle.bk_arm_sim.proofs.arithmetic.shifted.Goals as goal

pub overflow_cast-result-in-Ror : goal.overflow_cast-result-in-Ror
overflow_cast-result-in-Ror c =
    let by : (32 - c.args.count % 32) % 32 < 32 = omega arith in
    omega (arith, turned_below 32 ((32 - c.args.count % 32) % 32) c.args.x by, c.rotl.ensures)
