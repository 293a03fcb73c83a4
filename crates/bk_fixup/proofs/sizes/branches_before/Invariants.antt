use Rattle.std.proofs.Common.{ℕ, ◌-◌, ◌≤◌, ◌<◌, length}
use Rattle.bk_fixup.specs.Sizes.{branch_at}
use Rattle.bk_fixup.proofs.sizes.branches_before.Given as goal

abbrev pub invariant-loop-low : goal.invariant-loop-low
invariant-loop-low l = record {
  ordered : l.low ≤ l.high;
  within : l.high ≤ length l.branches;
  before : (k : ℕ) → k < l.low → (branch_at l.branches k).at < l.place;
  behind : (k : ℕ) → l.high ≤ k → k < length l.branches → l.place ≤ (branch_at l.branches k).at;
}

abbrev pub decreases-loop-low : goal.decreases-loop-low
decreases-loop-low l = l.high - l.low
