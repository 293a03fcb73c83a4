use Rattle.std.proofs.Common.{◌≡◌, ℕ, ◌+◌}
use Rattle.std.specs.Prelude.{count_by}
use Rattle.std.specs.Map.{count_at}
use Rattle.std.specs.Ordering.{nat_cmp}
use Rattle.std.specs.BTreeMap.{get}
use Rattle.bk_shuffle.specs.Sequence.{takes_from}
use Rattle.bk_shuffle.specs.Left.{AreFree, takers}
use Rattle.bk_shuffle.proofs.left.count_takers.Given as goal

-- what is counted, and what is left to count
abbrev pub invariant-loop-edge : goal.invariant-loop-edge
invariant-loop-edge l = record {
  counted : (p : ℕ) → count_at (get nat_cmp l.counts) p + count_by (takes_from p) l.edge-iterator ≡ takers l.left p;
  free : AreFree l.free l.left (count_at (get nat_cmp l.counts));
}
