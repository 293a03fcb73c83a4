use Rattle.std.proofs.Common.{◌≡◌, ◌++◌, take, map}
use Rattle.bk_mean.proofs.numbering.push_ids.Given as goal

abbrev pub invariant-loop-value : goal.invariant-loop-value
invariant-loop-value l = l.list.items ≡ l.initial.list.items ++ map (λ v. v.id) (take l.value-index l.values)
