use Rattle.std.proofs.Common.{◌≡◌, ◌++◌, drop}
use Rattle.bk_num.specs.Memory.{data_base}
use Rattle.bk_mean.specs.Symbols.{starts_from}
use Rattle.bk_mean.proofs.symbols.starts.Given as goal

abbrev pub invariant-loop-var : goal.invariant-loop-var
invariant-loop-var l = l.starts.items ++ starts_from (drop l.var-index l.vars) l.address ≡ starts_from l.vars data_base
