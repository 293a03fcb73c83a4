use Rattle.std.proofs.Common.{ℕ, ◌<◌}
use Rattle.bk_rewrite.specs.Places.{StandsAmong}
use Rattle.bk_rewrite.proofs.spots.place_in.Given as goal

abbrev pub invariant-loop-place : goal.invariant-loop-place
invariant-loop-place l = (p : ℕ) → p < l.place → ¬ StandsAmong l.values l.id p
