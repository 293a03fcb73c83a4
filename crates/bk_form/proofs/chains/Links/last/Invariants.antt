use Rattle.std.proofs.Common.{◌≡◌, ℕ, get_or, []}
use Rattle.bk_form.proofs.Finding.{HoldsUpTo}
use Rattle.bk_form.proofs.chains.Links.last.Given as goal

abbrev pub invariant-loop-place : goal.invariant-loop-place
invariant-loop-place l = HoldsUpTo (λ (p : ℕ). ¬ (get_or l.self.after p [] ≡ [])) l.places l.place-index
