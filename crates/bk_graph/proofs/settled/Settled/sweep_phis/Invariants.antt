use Rattle.std.proofs.Common.{◌≡◌, ℕ, ◌<◌, false}
use Rattle.bk_graph.specs.Cleaned.{IsPhiDone}
use Rattle.bk_graph.specs.Reads.{facts, tables_in, IsRight}
use Rattle.bk_graph.proofs.settled.Settled.sweep_phis.Given as goal

abbrev pub invariant-loop-place : goal.invariant-loop-place
invariant-loop-place l = record {
  graph : l.self.graph.now ≡ l.initial.self.graph.now;
  right : IsRight l.self;
  none : l.changed ≡ false → (facts l.self ≡ facts l.initial.self) × ((p : ℕ) → p < l.place → IsPhiDone (tables_in l.initial.self) (facts l.initial.self) p);
}
