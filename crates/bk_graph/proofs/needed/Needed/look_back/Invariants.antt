use Rattle.std.proofs.Common.{◌≡◌}
use Rattle.bk_graph.specs.Marks.{AreMarked}
use Rattle.bk_graph.specs.Reads.{facts, tables_in}
use Rattle.bk_graph.proofs.needed.Needed.look_back.Given as goal

abbrev pub invariant-loop-step : goal.invariant-loop-step
invariant-loop-step l = record {
  settled : l.self.settled.now ≡ l.fn.self.settled.now;
  marks : AreMarked (tables_in l.self.settled.now) (facts l.self.settled.now) l.self.needed.items;
}
