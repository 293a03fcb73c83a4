use Rattle.bk_graph.specs.Reads.{Steps}
use Rattle.bk_graph.proofs.settled.Settled.visit_phis.Given as goal

abbrev pub invariant-loop-place : goal.invariant-loop-place
invariant-loop-place l = Steps l.fn.self l.self
