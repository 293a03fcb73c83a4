use Rattle.bk_num.proofs.Powers.{shl_gone, shl_kept}
use Rattle.std.proofs.Common.{arith}
use Rattle.bk_num.proofs.shl.Goals as goal

pub returns-then-count-w : goal.returns-then-count-w
returns-then-count-w c = shl_gone c.args.w c.args.x c.args.count (omega arith)

pub returns-else-count-w : goal.returns-else-count-w
returns-else-count-w c = grind (arith, shl_kept)
