use Rattle.std.proofs.Common.{◌≡◌}
use Rattle.bk_graph.specs.Reads.{IsRight}
use Rattle.bk_graph.proofs.settled.Settled.new.Given as goal

abbrev pub invariant-loop : goal.invariant-loop
invariant-loop l = record {
  graph : l.settled.graph.now ≡ l.fn.graph;
  right : IsRight l.settled;
}
