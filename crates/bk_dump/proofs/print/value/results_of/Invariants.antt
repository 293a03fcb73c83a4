use Rattle.std.proofs.Common.{◌≡◌, ◌==◌, drop}
use Rattle.std.specs.List.{find}
use Rattle.bk_dump.proofs.print.value.results_of.Given as goal

abbrev pub invariant-loop-func : goal.invariant-loop-func
invariant-loop-func l = find (λ f. f.name == l.name) (drop l.func-index l.pkg.funcs) ≡ find (λ f. f.name == l.name) l.pkg.funcs
