use Rattle.std.proofs.Common.{refl, arith, rules}
use Rattle.bk_link.proofs.Rising.{rises_more}
use Rattle.bk_link.proofs.linkable.rise.Goals as goal

pub loop-place-preserved : goal.loop-place-preserved
loop-place-preserved c = rises_more c.args.numbers.now c.loop-place.place (omega arith) c.loop-place.invariant (search rules)

pub returns : goal.returns
returns c = ((λ t k l. c.loop-place.invariant k (omega (arith, l, c.loop-place-test.false))), (λ h. refl))
