use Rattle.std.proofs.Common.{◌≡◌, ℕ, get_or, None}
use Rattle.bk_places.proofs.Sowing.{Sown}
use Rattle.bk_form.proofs.chains.firsts.Given as goal

abbrev pub invariant-loop-place : goal.invariant-loop-place
invariant-loop-place l = Sown l.after l.nowhere (λ (p : ℕ). get_or l.befores p None ≡ None) l.place l.search.labels.items l.search.reached.items
