use Rattle.std.proofs.Common.{◌≡◌, ℕ, drop}
use Rattle.std.specs.Prelude.{◌==◌, position}
use Rattle.std.specs.Ordering.{nat_cmp}
use Rattle.std.specs.BTreeMap.{get}
use Rattle.std.specs.List.{position_from}
use Rattle.bk_func.specs.Meaning.{or_else}
use Rattle.bk_places.proofs.first.first_places.Given as goal

abbrev pub invariant-loop-place : goal.invariant-loop-place
invariant-loop-place l = (q : ℕ) → or_else (get nat_cmp l.places q) (position_from (λ x. x == q) l.place (drop l.place l.numbers)) ≡ position (λ x. x == q) l.numbers
