use Rattle.std.proofs.Common.{ℕ, ◌<◌}
use Rattle.bk_rewrite.specs.Places.{StandsIn}
use Rattle.bk_rewrite.proofs.spots.search.Given as goal

abbrev pub invariant-loop-block : goal.invariant-loop-block
invariant-loop-block l = (b p : ℕ) → b < l.block → ¬ StandsIn l.blocks l.id b p
