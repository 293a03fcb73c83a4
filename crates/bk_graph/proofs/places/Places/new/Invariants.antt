use Rattle.std.proofs.Common.{◌≡◌, ◌==◌, ℕ, position, take}
use Rattle.std.specs.BTreeMap.{get}
use Rattle.std.specs.Ordering.{nat_cmp}
use Rattle.bk_graph.proofs.places.Places.new.Given as goal

abbrev pub invariant-loop-place : goal.invariant-loop-place
invariant-loop-place l = (n : ℕ) → get nat_cmp l.places n ≡ position (λ x. x == n) (take l.place l.numbers)
