use Rattle.std.proofs.Common.{◌≡◌, ℕ, get_or, None}
use Rattle.bk_form.proofs.Gathering.{GathersUpTo}
use Rattle.bk_form.proofs.carried.push_differing.Given as goal

abbrev pub invariant-loop-place : goal.invariant-loop-place
invariant-loop-place l = GathersUpTo (λ (y : ℕ). ¬ (get_or l.noted y None ≡ l.state)) l.places l.initial.differing.items l.place-index l.differing.items
