use Rattle.std.proofs.Common.{◌≡◌, ℕ, Option, None, get_or}
use Rattle.bk_places.proofs.Filling.{Filled}
use Rattle.bk_form.specs.Carried.{unmarked}
use Rattle.bk_form.proofs.carried.states_of.Given as goal

abbrev pub invariant-loop-place : goal.invariant-loop-place
invariant-loop-place l = Filled (λ (p : ℕ) (o : Option ℕ). o ≡ unmarked (get_or l.marks p None) (get_or l.noted p None)) None l.states.items l.place
