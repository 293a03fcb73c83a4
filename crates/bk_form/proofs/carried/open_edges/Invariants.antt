use Rattle.std.proofs.Common.{◌≡◌, ℕ, [], List, cond, get_or}
use Rattle.std.specs.List.{slice_get}
use Rattle.bk_places.proofs.Filling.{Filled}
use Rattle.bk_form.specs.Carried.{is_open}
use Rattle.bk_form.proofs.carried.open_edges.Given as goal

abbrev pub invariant-loop-at : goal.invariant-loop-at
invariant-loop-at l = Filled (λ (p : ℕ) (us : List ℕ). us ≡ cond (is_open (slice_get l.chains p)) (get_or l.edges p []) []) [] l.through l.at
