-- the keys so far, with those that are left
use Rattle.std.proofs.Common.{◌≡◌, ◌++◌}
use Rattle.bk_alloc.proofs.homes.rising.Given as goal

abbrev pub invariant-loop-value : goal.invariant-loop-value
invariant-loop-value l = l.values.items ++ l.value-iterator ≡ l.set.keys
