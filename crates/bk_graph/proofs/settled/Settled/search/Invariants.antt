use Rattle.bk_graph.specs.Reads.{facts, tables_in}
use Rattle.bk_graph.specs.Settling.{IsFound}
use Rattle.bk_graph.proofs.settled.Settled.search.Given as goal

abbrev pub invariant-loop : goal.invariant-loop
invariant-loop l = IsFound (tables_in l.self) (facts l.self) l.found.items
