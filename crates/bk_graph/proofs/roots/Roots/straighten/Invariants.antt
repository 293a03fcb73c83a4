use Rattle.std.proofs.Common.{◌≡◌}
use Rattle.bk_graph.proofs.roots.Roots.straighten.Given as goal

abbrev pub invariant-loop-place : goal.invariant-loop-place
invariant-loop-place l = l.self ≡ l.fn.self
