use Rattle.std.proofs.Common.{take}
use Rattle.bk_work.specs.Package.{AreOutcomes}
use Rattle.bk_work.proofs.outcomes.Outcomes.new.Given as goal

abbrev pub invariant-loop-place : goal.invariant-loop-place
invariant-loop-place l = AreOutcomes l.pkg l.target l.lists.rules 0 (take l.place l.pkg.funcs) l.outcomes.framed.items l.outcomes.refusals.items
