use Rattle.std.proofs.Common.{take}
use Rattle.std.specs.Prelude.{All}
use Rattle.bk_dump.specs.Views.{IsFormed}
use Rattle.bk_dump.proofs.read.package.check_forms.Given as goal

abbrev pub invariant-loop-func : goal.invariant-loop-func
invariant-loop-func l = All (IsFormed l.pkg l.fn.target) (take l.func-index l.pkg.funcs)
