use Rattle.std.proofs.Common.{◌≡◌, ℕ, ◌<◌, length}
use Rattle.std.specs.Prelude.{slice_index}
use Rattle.bk_fixup.specs.Sizes.{branch_at}
use Rattle.bk_fixup.specs.Rounds.{IsEnd}
use Rattle.bk_fixup.proofs.sizes.ends_of.Given as goal

abbrev pub invariant-loop-branch : goal.invariant-loop-branch
invariant-loop-branch l = record {
  long : length l.ends.items ≡ l.branch-index;
  each : (k : ℕ) → k < l.branch-index → IsEnd l.branches (branch_at l.branches k).target (slice_index l.ends.items k);
}
