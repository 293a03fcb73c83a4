use Rattle.std.proofs.Common.{ℕ, ◌<◌}
use Rattle.bk_places.specs.Search.{IsEdge}
use Rattle.bk_form.specs.Orders.{RisesTo}
use Rattle.bk_form.proofs.rounds.settles.Given as goal

abbrev pub invariant-loop-place : goal.invariant-loop-place
invariant-loop-place l = (p q : ℕ) → p < l.place → IsEdge l.edges p q → RisesTo l.ranks p q
