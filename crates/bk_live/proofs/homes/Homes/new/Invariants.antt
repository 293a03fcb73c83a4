use Rattle.std.proofs.Common.{map}
use Rattle.bk_live.specs.Homes.{HomesUpTo, home}
use Rattle.bk_live.proofs.homes.Homes.new.Given as goal

abbrev pub invariant-loop-block : goal.invariant-loop-block
invariant-loop-block l = HomesUpTo (map (λ o. o.items) l.orders) l.block 0 (home l.homes)
