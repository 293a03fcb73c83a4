use Rattle.std.proofs.Common.{◌≡◌, ℕ, length, map, take}
use Rattle.std.specs.Prelude.{slice_index}
use Rattle.bk_places.specs.Counts.{total_in}
use Rattle.bk_mean.proofs.arrange.count_uses.Given as goal

abbrev pub invariant-loop-taken : goal.invariant-loop-taken
invariant-loop-taken l = record {
  size : length l.uses.items ≡ l.count;
  counts : (y : ℕ) → slice_index l.uses.items y ≡ total_in (map (λ t. t.items) (take l.taken-index l.takes)) y;
}
