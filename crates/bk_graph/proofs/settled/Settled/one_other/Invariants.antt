use Rattle.bk_graph.specs.Reads.{facts}
use Rattle.bk_graph.proofs.Others.{Seen}
use Rattle.bk_graph.proofs.settled.Settled.one_other.Given as goal

abbrev pub invariant-loop-place : goal.invariant-loop-place
invariant-loop-place l = Seen (facts l.self) l.edges l.args l.own l.place l.found
