use Rattle.std.proofs.Common.{◌≡◌, take}
use Rattle.bk_live.specs.Rows.{values_of}
use Rattle.bk_live.proofs.rows.values_of.Given as goal

abbrev pub invariant-loop-live : goal.invariant-loop-live
invariant-loop-live l = l.values.items ≡ values_of (take l.live-index l.row)
