use Rattle.bk_form.specs.Names.{measure}
use Rattle.bk_form.proofs.Asked.{FitUpTo}
use Rattle.bk_form.proofs.types.args_fit.Given as goal

abbrev pub invariant-loop-place : goal.invariant-loop-place
invariant-loop-place l = FitUpTo (measure l.scope) l.scope.func.now l.value l.place
