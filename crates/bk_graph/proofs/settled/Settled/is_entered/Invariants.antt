use Rattle.std.proofs.Common.{◌≡◌, ℕ, ◌<◌, false, Some}
use Rattle.std.specs.Prelude.{slice_get}
use Rattle.bk_graph.specs.declared.graph.Edge.{Edge}
use Rattle.bk_graph.specs.Reads.{facts}
use Rattle.bk_graph.specs.Settling.{enters}
use Rattle.bk_graph.proofs.settled.Settled.is_entered.Given as goal

abbrev pub invariant-loop-edge : goal.invariant-loop-edge
invariant-loop-edge l = (k : ℕ) (e : Edge) → k < l.edge-index → slice_get l.edges k ≡ Some e → enters (facts l.self) l.found e ≡ false
