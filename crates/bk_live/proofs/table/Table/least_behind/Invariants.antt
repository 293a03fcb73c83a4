use Rattle.std.proofs.Common.{◌≡◌, take, None, slice_index_or, []}
use Rattle.std.specs.List.{fold}
use Rattle.bk_live.specs.Table.{nearer}
use Rattle.bk_live.proofs.table.Table.least_behind.Given as goal

abbrev pub invariant-loop-next : goal.invariant-loop-next
invariant-loop-next l = l.least ≡ fold (nearer l.self.live l.value) None (take l.next-index (slice_index_or l.self.edges l.place []))
