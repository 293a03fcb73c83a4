use Rattle.std.proofs.Common.{◌≡◌, map, take}
use Rattle.bk_mean.proofs.symbols.func_names.Given as goal

abbrev pub invariant-loop-func : goal.invariant-loop-func
invariant-loop-func l = l.names.items ≡ map (λ g. g.name) (take l.func-index l.funcs)
