use Rattle.std.proofs.Common.{◌≡◌, ◌++◌, take, map}
use Rattle.std.specs.Prelude.{unwrap_or}
use Rattle.std.specs.Ordering.{nat_cmp}
use Rattle.std.specs.BTreeMap.{get}
use Rattle.bk_mean.specs.Numbering.{copied_by}
use Rattle.bk_mean.proofs.numbering.push_copied.Given as goal

abbrev pub invariant-loop-value : goal.invariant-loop-value
invariant-loop-value l = l.list.items ≡ l.initial.list.items ++ map (λ v. unwrap_or (get nat_cmp l.places (copied_by v)) l.count) (take l.value-index l.values)
