use Rattle.std.proofs.Common.{◌≡◌, ℕ}
use Rattle.bk_form.proofs.Finding.{HoldsUpTo}
use Rattle.bk_form.proofs.memory.are_all.Given as goal

abbrev pub invariant-loop-place : goal.invariant-loop-place
invariant-loop-place l = HoldsUpTo (λ (p : ℕ). p ≡ l.at) l.places l.place-index
