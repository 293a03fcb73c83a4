-- the values of the numbers so far
use Rattle.std.proofs.Common.{◌≡◌, map, take}
use Rattle.bk_alloc.specs.Placement.{ordered}
use Rattle.bk_alloc.proofs.plan.ordered.Given as goal

abbrev pub invariant-loop-number : goal.invariant-loop-number
invariant-loop-number l = map (λ v. v.now) l.list.items ≡ ordered l.values (take l.number-index l.order)
