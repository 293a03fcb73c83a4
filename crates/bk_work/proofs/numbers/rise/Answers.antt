use Rattle.std.proofs.Common.{arith}
use Rattle.bk_work.proofs.Own.{rises_more}
use Rattle.bk_work.proofs.numbers.rise.Goals as goal

pub loop-place-preserved : goal.loop-place-preserved
loop-place-preserved c = rises_more c.args.numbers.now c.loop-place.place (omega arith) c.loop-place.invariant (omega arith)

pub returns : goal.returns
returns c = λ t k l. c.loop-place.invariant k (omega (arith, l, c.loop-place-test.false))
