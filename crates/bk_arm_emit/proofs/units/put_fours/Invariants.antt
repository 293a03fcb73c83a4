use Rattle.std.proofs.Common.{◌≡◌, ◌++◌, map}
use Rattle.bk_arm_emit.specs.Lines.{inst}
use Rattle.bk_arm_emit.specs.Units.{fours}
use Rattle.bk_arm_emit.proofs.units.put_fours.Given as goal

abbrev pub invariant-loop-place : goal.invariant-loop-place
invariant-loop-place l = l.lines.items ≡ l.initial.lines.items ++ map inst (fours l.is_move l.regs l.place)
