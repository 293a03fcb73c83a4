use Rattle.std.proofs.Common.{◌∙◌, sym, arith}
use Rattle.bk_func.proofs.Arguments.{fit_short, fit_end}
use Rattle.bk_func.proofs.signature.fit.Goals as goal

pub returns-then-place-numbers : goal.returns-then-place-numbers
returns-then-place-numbers c =
    sym (fit_short c.args.target c.args.types.now c.args.numbers.now c.loop-place.place (omega arith) (omega arith)) ∙ c.loop-place.invariant.is

pub returns : goal.returns
returns c =
    fit_end c.args.target c.args.types.now c.args.numbers.now c.loop-place.place (omega arith) c.loop-place.invariant.within
    ∙ c.loop-place.invariant.is
