use Rattle.std.proofs.Common.{◌≡◌, get_or, None, Some, ℕ, Option}
use Rattle.std.specs.List.{slice_get}
use Rattle.bk_places.proofs.Filling.{Filled}
use Rattle.bk_form.specs.Groups.{key_of}
use Rattle.bk_form.specs.Places.{NodeRecord, nodes_of}
use Rattle.bk_form.proofs.groups.keys.Given as goal

abbrev pub invariant-loop-place : goal.invariant-loop-place
invariant-loop-place l =
    Filled (λ (p : ℕ) (o : Option (ℕ × ℕ)). (m : NodeRecord) → slice_get (nodes_of l.flow.scope.func.now) p ≡ Some m → o ≡ key_of m.home (get_or l.names p None)) None l.keys.items l.place
