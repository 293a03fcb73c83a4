use Rattle.std.proofs.Common.{map}
use Rattle.bk_live.specs.Homes.{HomesUpTo, home}
use Rattle.bk_live.proofs.homes.Homes.add.Given as goal

abbrev pub invariant-loop-entry : goal.invariant-loop-entry
invariant-loop-entry l = HomesUpTo (map (λ o. o.items) l.orders) l.block l.entry (home l.self)
