use Rattle.std.proofs.Common.{◌≡◌, ℕ, get_or, None, Some, []}
use Rattle.std.specs.List.{slice_get}
use Rattle.bk_form.proofs.Finding.{HoldsUpTo}
use Rattle.bk_form.proofs.chains.Links.is_line.Given as goal

abbrev pub invariant-loop-place : goal.invariant-loop-place
invariant-loop-place l =
    HoldsUpTo (λ (p : ℕ). (q : ℕ) → get_or l.self.befores.items p None ≡ Some q → slice_get (get_or l.self.after q []) 0 ≡ Some p) l.places l.place-index
