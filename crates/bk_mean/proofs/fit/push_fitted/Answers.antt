use Rattle.std.proofs.Common.{arith, ◌++◌}
use Rattle.std.proofs.lemmas.Bool.Decides.{nat_tests}
use Rattle.bk_func.specs.Words.{fitted as meant_fitted}
use Rattle.bk_mean.proofs.Fits.{none_more}
use Rattle.bk_mean.proofs.fit.push_fitted.Goals as goal

pub returns-in-None : goal.returns-in-None
returns-in-None c =
    none_more c.args.target c.args.types.now c.args.numbers.now c.loop-place.place c.loop-place.list.items (c.args.list.now.items ++ meant_fitted c.args.target c.args.types.now c.args.numbers.now)
    (grind (arith, nat_tests, c.in-None.ensures.lookup)) c.loop-place.invariant
