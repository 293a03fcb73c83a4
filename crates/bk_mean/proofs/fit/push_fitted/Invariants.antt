use Rattle.std.proofs.Common.{◌≡◌, ◌++◌, drop}
use Rattle.bk_func.specs.Words.{fitted as meant_fitted}
use Rattle.bk_mean.proofs.fit.push_fitted.Given as goal

abbrev pub invariant-loop-place : goal.invariant-loop-place
invariant-loop-place l = l.list.items ++ meant_fitted l.target (drop l.place l.types) (drop l.place l.numbers) ≡ l.initial.list.items ++ meant_fitted l.target l.types l.numbers
