use Rattle.std.proofs.Common.{◌≡◌, ℕ, ◌<◌, length}
use Rattle.std.specs.Prelude.{slice_index}
use Rattle.bk_fixup.proofs.sizes.ones.Given as goal

abbrev pub invariant-loop-branch : goal.invariant-loop-branch
invariant-loop-branch l = record {
  long : length l.sizes.items ≡ l.branch-index;
  each : (k : ℕ) → k < l.branch-index → slice_index l.sizes.items k ≡ 1;
}
