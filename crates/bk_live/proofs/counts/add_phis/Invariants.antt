use Rattle.std.proofs.Common.{◌≡◌, ℕ, ◌==◌, ◌&&◌, ◌||◌, take}
use Rattle.std.specs.BTreeSet.{contains}
use Rattle.std.specs.List.{list_any}
use Rattle.std.specs.Ordering.{nat_cmp}
use Rattle.bk_func.specs.Records.{ValueRecord}
use Rattle.bk_live.specs.Live.{is_phi}
use Rattle.bk_live.proofs.counts.add_phis.Given as goal

abbrev pub invariant-loop-value : goal.invariant-loop-value
invariant-loop-value l =
    (x : ℕ) → contains nat_cmp l.phis x ≡ contains nat_cmp l.initial.phis x || list_any (λ (v : ValueRecord). is_phi v.op.family && (v.id == x)) (take l.value-index l.values)
