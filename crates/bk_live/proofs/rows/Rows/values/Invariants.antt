use Rattle.std.proofs.Common.{◌≡◌, map, take}
use Rattle.bk_live.specs.Rows.{values_of}
use Rattle.bk_live.proofs.rows.Rows.values.Given as goal

abbrev pub invariant-loop-row : goal.invariant-loop-row
invariant-loop-row l = map (λ r. r.items) l.rows.items ≡ map values_of (take l.row-index l.self)
