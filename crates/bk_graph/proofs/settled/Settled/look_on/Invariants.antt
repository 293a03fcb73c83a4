use Rattle.std.proofs.Common.{◌≡◌, ℕ, ◌<◌, false}
use Rattle.bk_graph.specs.Reads.{facts, tables_in}
use Rattle.bk_graph.specs.Settling.{IsFound, IsShut}
use Rattle.bk_graph.proofs.settled.Settled.look_on.Given as goal

abbrev pub invariant-loop-block : goal.invariant-loop-block
invariant-loop-block l = record {
  found : IsFound (tables_in l.self) (facts l.self) l.found;
  none : l.changed ≡ false → (l.found ≡ l.initial.found) × ((b : ℕ) → b < l.block → IsShut (tables_in l.self) (facts l.self) l.initial.found b);
}
