use Rattle.std.proofs.Common.{◌≡◌, ◌↔◌, ℕ, Bool, true, false, Some}
use Rattle.std.specs.List.{slice_get}
use Rattle.bk_places.proofs.Filling.{Filled}
use Rattle.bk_form.specs.Arranged.{IsNextAt}
use Rattle.bk_form.specs.Places.{NodeRecord, nodes_of}
use Rattle.bk_form.proofs.order.nexts.Given as goal

abbrev pub invariant-loop-home : goal.invariant-loop-home
invariant-loop-home l =
    Filled (λ (p : ℕ) (b : Bool). (m : NodeRecord) → slice_get (nodes_of l.flow.scope.func.now) p ≡ Some m → (b ≡ true) ↔ IsNextAt l.flow.scope.func.now p m) false l.picked.items l.home-index
