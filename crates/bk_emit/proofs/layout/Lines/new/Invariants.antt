use Rattle.std.specs.BTreeMap.{get}
use Rattle.std.specs.Ordering.{nat_cmp}
use Rattle.bk_emit.specs.Tables.{look, IsDrawn}
use Rattle.bk_emit.proofs.layout.Lines.new.Given as goal

abbrev pub invariant-loop-place : goal.invariant-loop-place
invariant-loop-place g l = IsDrawn g.M.Machine.forms l.frame (look l.entries) l.blocks l.place l.lines.items (λ n. get nat_cmp l.starts n)
