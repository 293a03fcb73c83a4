use Rattle.std.proofs.Common.{◌≡◌, ◌↔◌, ℕ, Bool, true, false, Some}
use Rattle.std.specs.List.{slice_get}
use Rattle.bk_places.proofs.Filling.{Filled}
use Rattle.bk_form.specs.Arranged.{PlaysAt}
use Rattle.bk_form.specs.Places.{NodeRecord, nodes_of}
use Rattle.bk_form.proofs.order.players.Given as goal

abbrev pub invariant-loop-node : goal.invariant-loop-node
invariant-loop-node l =
    Filled (λ (p : ℕ) (b : Bool). (m : NodeRecord) → slice_get (nodes_of l.flow.scope.func.now) p ≡ Some m → (b ≡ true) ↔ PlaysAt l.role p m) false l.picked.items l.node-index
