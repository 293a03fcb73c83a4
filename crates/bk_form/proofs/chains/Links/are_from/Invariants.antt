use Rattle.std.proofs.Common.{◌≡◌, ℕ, get_or, None, Some}
use Rattle.bk_form.proofs.Finding.{HoldsUpTo}
use Rattle.bk_form.proofs.chains.Links.are_from.Given as goal

abbrev pub invariant-loop-place : goal.invariant-loop-place
invariant-loop-place l = HoldsUpTo (λ (p : ℕ). get_or l.self.firsts.items p None ≡ Some l.first) l.places l.place-index
