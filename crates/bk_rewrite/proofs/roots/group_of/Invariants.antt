use Rattle.std.proofs.Common.{ℕ, ◌<◌}
use Rattle.bk_rewrite.specs.Roots.{HasGroup}
use Rattle.bk_rewrite.proofs.roots.group_of.Given as goal

abbrev pub invariant-loop-place : goal.invariant-loop-place
invariant-loop-place l = (i : ℕ) → i < l.place → HasGroup l.groups l.op i → ⊥
