use Rattle.bk_ops.proofs.Cut.{carried}
use Rattle.bk_ops.proofs.arithmetic.add_carry.Goals as goal

pub returns : goal.returns
returns c = rw (c.add-2.ensures, c.add.ensures, c.carry.ensures) (carried c.args.w _ _ _)
