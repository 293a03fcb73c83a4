use Rattle.std.proofs.Common.{arith}
use Rattle.std.proofs.lemmas.Bool.Decides.{nat_tests}
use Rattle.bk_mean.specs.Left.{put_all}
use Rattle.bk_mean.proofs.Turning.{put_none}
use Rattle.bk_mean.proofs.turn.put_phis.Goals as goal

pub returns-in_default : goal.returns-in_default
returns-in_default c =
    put_none c.args.first c.loop-index.index c.args.phis.now c.args.given.now c.loop-index.numbers (put_all c.args.first c.args.phis.now c.args.given.now c.args.numbers.now)
    (grind (arith, nat_tests, c.in_default.ensures.lookup)) c.loop-index.invariant
