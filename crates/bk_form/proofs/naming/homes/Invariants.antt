use Rattle.std.proofs.Common.{◌≡◌, ◌↔◌, ℕ, Option, None, Some}
use Rattle.bk_places.proofs.Filling.{Filled}
use Rattle.bk_form.specs.Chains.{IsStateAt}
use Rattle.bk_form.proofs.naming.homes.Given as goal

abbrev pub invariant-loop-node : goal.invariant-loop-node
invariant-loop-node l = Filled (λ (p : ℕ) (o : Option ℕ). (j : ℕ) → (o ≡ Some j) ↔ IsStateAt l.flow.scope.func.now j p) None l.homes.items l.node-index
