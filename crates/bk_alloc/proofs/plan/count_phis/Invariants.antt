-- the phis so far are counted
use Rattle.std.proofs.Common.{◌≡◌, ◌≤◌, map, take}
use Rattle.std.specs.Prelude.{count_by}
use Rattle.bk_alloc.specs.Placement.{is_phi_value}
use Rattle.bk_alloc.proofs.plan.count_phis.Given as goal

abbrev pub invariant-loop-value : goal.invariant-loop-value
invariant-loop-value l = (l.count ≡ count_by is_phi_value (map (λ v. v.now) (take l.value-index l.values))) × (l.count ≤ l.value-index)
