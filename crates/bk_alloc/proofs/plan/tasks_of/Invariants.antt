-- the values so far that are no phis
use Rattle.std.proofs.Common.{◌≡◌, map, take}
use Rattle.std.specs.BTreeSet.{contains}
use Rattle.std.specs.Ordering.{nat_cmp}
use Rattle.std.specs.Prelude.{filter}
use Rattle.bk_alloc.specs.Placement.{is_scheduled, task_of}
use Rattle.bk_alloc.proofs.plan.tasks_of.Given as goal

abbrev pub invariant-loop-value : goal.invariant-loop-value
invariant-loop-value l = l.tasks.items ≡ map (task_of (contains nat_cmp l.words)) (filter is_scheduled (map (λ v. v.now) (take l.value-index l.values)))
