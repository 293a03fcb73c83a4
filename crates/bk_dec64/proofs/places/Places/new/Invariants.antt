use Rattle.std.proofs.Common.{◌≡◌, ◌==◌, ℕ, position, take}
use Rattle.std.specs.BTreeMap.{get}
use Rattle.std.specs.Ordering.{nat_cmp}
use Rattle.bk_dec64.proofs.places.Places.new.Given as goal

abbrev pub invariant-loop-place : goal.invariant-loop-place
invariant-loop-place l = (n : ℕ) → get nat_cmp l.places n ≡ position (λ b. b.id == n) (take l.place l.blocks)
