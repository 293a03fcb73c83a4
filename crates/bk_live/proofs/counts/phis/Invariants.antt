use Rattle.std.proofs.Common.{◌≡◌, ℕ, ◌==◌, ◌&&◌, take}
use Rattle.std.specs.BTreeSet.{contains}
use Rattle.std.specs.List.{list_any}
use Rattle.std.specs.Ordering.{nat_cmp}
use Rattle.bk_func.specs.Records.{BlockRecord, ValueRecord}
use Rattle.bk_live.specs.Live.{is_phi}
use Rattle.bk_live.proofs.counts.phis.Given as goal

abbrev pub invariant-loop-block : goal.invariant-loop-block
invariant-loop-block l =
    (x : ℕ) → contains nat_cmp l.phis x ≡ list_any (λ (b : BlockRecord). list_any (λ (v : ValueRecord). is_phi v.op.family && (v.id == x)) b.values) (take l.block-index l.func.blocks)
