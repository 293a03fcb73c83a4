use Rattle.std.proofs.Common.{◌≡◌, ◌↔◌, ℕ, Option, None, Some}
use Rattle.bk_places.proofs.Filling.{Filled}
use Rattle.bk_form.specs.Chains.{IsBefore}
use Rattle.bk_form.proofs.chains.befores.Given as goal

abbrev pub invariant-loop-place : goal.invariant-loop-place
invariant-loop-place l = Filled (λ (p : ℕ) (o : Option ℕ). (q : ℕ) → (o ≡ Some q) ↔ IsBefore l.homes l.names p q) None l.befores.items l.place
