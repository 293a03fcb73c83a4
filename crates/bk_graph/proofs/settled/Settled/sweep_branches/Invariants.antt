use Rattle.std.proofs.Common.{◌≡◌, ℕ, ◌<◌, false}
use Rattle.bk_graph.specs.Cleaned.{IsBranchDone}
use Rattle.bk_graph.specs.Reads.{facts, tables_in, IsRight}
use Rattle.bk_graph.proofs.settled.Settled.sweep_branches.Given as goal

abbrev pub invariant-loop-block : goal.invariant-loop-block
invariant-loop-block l = record {
  graph : l.self.graph.now ≡ l.initial.self.graph.now;
  right : IsRight l.self;
  none : l.changed ≡ false → (facts l.self ≡ facts l.initial.self) × ((b : ℕ) → b < l.block → IsBranchDone (tables_in l.initial.self) (facts l.initial.self) b);
}
