use Rattle.std.proofs.Common.{◌≡◌, ℕ, ◌<◌, true, false}
use Rattle.bk_graph.specs.Marks.{marked, AreMarked, IsArgDone}
use Rattle.bk_graph.specs.Reads.{facts, tables_in}
use Rattle.bk_graph.proofs.needed.Needed.mark_args.Given as goal

abbrev pub invariant-loop-index : goal.invariant-loop-index
invariant-loop-index l = record {
  settled : l.self.settled.now ≡ l.fn.self.settled.now;
  marks : AreMarked (tables_in l.self.settled.now) (facts l.self.settled.now) l.self.needed.items;
  needed : marked l.self.needed.items l.place ≡ true;
  none : l.changed ≡ false → (l.self.needed.items ≡ l.fn.self.needed.items)
      × ((k : ℕ) → k < l.index → IsArgDone (tables_in l.fn.self.settled.now) (facts l.fn.self.settled.now) l.fn.self.needed.items l.place k);
}
