use Rattle.std.proofs.Common.{◌≡◌, ℕ, Option, None, Some}
use Rattle.std.specs.List.{slice_get}
use Rattle.bk_places.proofs.Filling.{Filled}
use Rattle.bk_form.specs.Naming.{NamesIf}
use Rattle.bk_form.specs.Places.{NodeRecord, nodes_of}
use Rattle.bk_form.proofs.naming.names.Given as goal

abbrev pub invariant-loop-node : goal.invariant-loop-node
invariant-loop-node l =
    Filled (λ (p : ℕ) (o : Option ℕ). (m : NodeRecord) → slice_get (nodes_of l.flow.scope.func.now) p ≡ Some m → NamesIf l.flow.scope.func.now m.value o) None l.names.items l.node-index
