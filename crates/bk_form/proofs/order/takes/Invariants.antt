use Rattle.std.proofs.Common.{◌≡◌, ◌↔◌, ℕ, List, [], Some}
use Rattle.std.specs.List.{Contains, slice_get}
use Rattle.bk_places.proofs.Filling.{Filled}
use Rattle.bk_form.specs.Arranged.{TakesTo}
use Rattle.bk_form.specs.Places.{NodeRecord, nodes_of}
use Rattle.bk_form.proofs.order.takes.Given as goal

abbrev pub invariant-loop-node : goal.invariant-loop-node
invariant-loop-node l =
    Filled (λ (p : ℕ) (ps : List ℕ). (m : NodeRecord) → slice_get (nodes_of l.flow.scope.func.now) p ≡ Some m → (q : ℕ) → Contains ps q ↔ TakesTo l.flow.scope.func.now m q) [] l.takes l.node-index
