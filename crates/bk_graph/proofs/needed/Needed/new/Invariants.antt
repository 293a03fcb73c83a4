use Rattle.std.proofs.Common.{◌≡◌}
use Rattle.bk_graph.specs.Marks.{AreMarked}
use Rattle.bk_graph.specs.Reads.{facts, tables_in}
use Rattle.bk_graph.proofs.needed.Needed.new.Given as goal

abbrev pub invariant-loop : goal.invariant-loop
invariant-loop l = record {
  settled : l.needed.settled.now ≡ l.fn.settled;
  marks : AreMarked (tables_in l.needed.settled.now) (facts l.needed.settled.now) l.needed.needed.items;
}
