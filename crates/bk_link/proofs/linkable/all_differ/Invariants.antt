use Rattle.std.proofs.Common.{ℕ, ◌<◌, ◌≢◌, map}
use Rattle.std.specs.List.{AllPairs}
use Rattle.bk_piece.specs.Filled.{area}
use Rattle.bk_piece.specs.Rising.{full}
use Rattle.bk_link.proofs.linkable.all_differ.Given as goal

abbrev pub invariant-loop-place : goal.invariant-loop-place
invariant-loop-place l = (k : ℕ) → k < l.place → AllPairs (λ x y. x ≢ y) (full (area (map (λ w. w.items) l.words) k))
