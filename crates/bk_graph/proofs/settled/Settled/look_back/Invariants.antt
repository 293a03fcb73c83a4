use Rattle.bk_graph.specs.Reads.{facts, tables_in}
use Rattle.bk_graph.specs.Settling.{IsFound}
use Rattle.bk_graph.proofs.settled.Settled.look_back.Given as goal

abbrev pub invariant-loop-step : goal.invariant-loop-step
invariant-loop-step l = IsFound (tables_in l.self) (facts l.self) l.found
