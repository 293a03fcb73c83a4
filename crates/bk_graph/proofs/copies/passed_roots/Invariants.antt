use Rattle.bk_graph.specs.Settling.{tables, ArePassed}
use Rattle.bk_graph.proofs.copies.passed_roots.Given as goal

abbrev pub invariant-loop-place : goal.invariant-loop-place
invariant-loop-place l = ArePassed (tables l.graph) l.roots l.place
