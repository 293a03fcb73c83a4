use Rattle.std.proofs.Common.{arith}
use Rattle.bk_num.proofs.Written.{has_bytes}
use Rattle.bk_arm_sim.proofs.memory.load_register.Goals as goal

pub overflow_cast-n : goal.overflow_cast-n
overflow_cast-n c = omega (arith, has_bytes c.in-Some.n c.args.size 4 c.in-Some.ensures.bound c.requires.size)
