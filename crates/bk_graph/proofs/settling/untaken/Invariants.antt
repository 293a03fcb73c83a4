use Rattle.std.proofs.Common.{◌≡◌, replicate, None}
use Rattle.bk_graph.proofs.settling.untaken.Given as goal

abbrev pub invariant-loop-place : goal.invariant-loop-place
invariant-loop-place l = l.taken.items ≡ replicate l._place None
