use Rattle.std.proofs.Common.{map}
use Rattle.bk_live.proofs.Counting.{RowsUpTo}
use Rattle.bk_live.proofs.counts.Counts.new.Given as goal

abbrev pub invariant-loop-order : goal.invariant-loop-order
invariant-loop-order l = RowsUpTo l.func (map (λ o. o.items) l.orders) l.order-index (map (λ r. r.items) l.rows.items)
