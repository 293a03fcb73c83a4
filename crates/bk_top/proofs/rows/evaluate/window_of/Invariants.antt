use Rattle.std.proofs.Common.{◌≡◌, ◌++◌, drop}
use Rattle.bk_top.specs.Evaluating.{window_of}
use Rattle.bk_top.proofs.rows.evaluate.window_of.Given as goal

abbrev pub invariant-loop-var : goal.invariant-loop-var
invariant-loop-var l = l.window.items ++ window_of (drop l.var-index l.vars) ≡ window_of l.vars
