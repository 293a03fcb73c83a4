use Rattle.std.proofs.Common.{◌≡◌, drop}
use Rattle.bk_mean.specs.Running.{keep_all}
use Rattle.bk_mean.proofs.machine.keep.Given as goal

abbrev pub invariant-loop-one : goal.invariant-loop-one
invariant-loop-one l = keep_all l.target l.count l.first (drop l.one-index l.kept) l.given l.numbers ≡ keep_all l.target l.count l.first l.kept l.given l.fn.numbers
