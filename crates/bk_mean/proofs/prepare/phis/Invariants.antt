use Rattle.std.proofs.Common.{◌≡◌, ◌++◌, drop}
use Rattle.bk_mean.specs.Ready.{phis_from}
use Rattle.bk_mean.proofs.prepare.phis.Given as goal

abbrev pub invariant-loop-local : goal.invariant-loop-local
invariant-loop-local l = l.phis.items ++ phis_from l.local (drop l.local l.values) ≡ phis_from 0 l.values
