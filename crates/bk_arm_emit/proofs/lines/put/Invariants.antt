use Rattle.std.proofs.Common.{◌≡◌, ◌++◌, map, drop}
use Rattle.bk_arm_emit.specs.Lines.{inst}
use Rattle.bk_arm_emit.proofs.lines.put.Given as goal

abbrev pub invariant-loop-inst : goal.invariant-loop-inst
invariant-loop-inst l = l.lines.items ++ map inst (drop l.inst-index l.insts) ≡ l.initial.lines.items ++ map inst l.insts
