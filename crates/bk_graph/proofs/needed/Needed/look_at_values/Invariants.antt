use Rattle.std.proofs.Common.{◌≡◌, ℕ, ◌<◌, false}
use Rattle.bk_graph.specs.Marks.{AreMarked, IsValueDone}
use Rattle.bk_graph.specs.Reads.{facts, tables_in}
use Rattle.bk_graph.proofs.needed.Needed.look_at_values.Given as goal

abbrev pub invariant-loop-place : goal.invariant-loop-place
invariant-loop-place l = record {
  settled : l.self.settled.now ≡ l.fn.self.settled.now;
  marks : AreMarked (tables_in l.self.settled.now) (facts l.self.settled.now) l.self.needed.items;
  none : l.changed ≡ false → (l.self.needed.items ≡ l.fn.self.needed.items)
      × ((p : ℕ) → p < l.place → IsValueDone (tables_in l.fn.self.settled.now) (facts l.fn.self.settled.now) l.fn.self.needed.items p);
}
