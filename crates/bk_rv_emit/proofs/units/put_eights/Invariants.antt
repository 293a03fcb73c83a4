use Rattle.std.proofs.Common.{◌≡◌, ◌++◌, map}
use Rattle.bk_rv_emit.specs.Lines.{inst}
use Rattle.bk_rv_emit.specs.Units.{eights}
use Rattle.bk_rv_emit.proofs.units.put_eights.Given as goal

abbrev pub invariant-loop-place : goal.invariant-loop-place
invariant-loop-place l = l.lines.items ≡ l.initial.lines.items ++ map inst (eights l.is_move l.regs l.place)
