use Rattle.std.proofs.Common.{◌≡◌, map, take}
use Rattle.bk_mean.proofs.symbols.var_names.Given as goal

abbrev pub invariant-loop-var : goal.invariant-loop-var
invariant-loop-var l = l.names.items ≡ map (λ x. x.name) (take l.var-index l.vars)
