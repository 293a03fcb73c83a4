use Rattle.std.proofs.Common.{◌≡◌, ℕ, ◌<◌, false}
use Rattle.bk_graph.specs.Marks.{AreMarked, IsControlDone}
use Rattle.bk_graph.specs.Reads.{facts, tables_in}
use Rattle.bk_graph.proofs.needed.Needed.look_at_controls.Given as goal

abbrev pub invariant-loop-block : goal.invariant-loop-block
invariant-loop-block l = record {
  settled : l.self.settled.now ≡ l.fn.self.settled.now;
  marks : AreMarked (tables_in l.self.settled.now) (facts l.self.settled.now) l.self.needed.items;
  none : l.changed ≡ false → (l.self.needed.items ≡ l.fn.self.needed.items)
      × ((b : ℕ) → b < l.block → IsControlDone (tables_in l.fn.self.settled.now) (facts l.fn.self.settled.now) l.fn.self.needed.items b);
}
