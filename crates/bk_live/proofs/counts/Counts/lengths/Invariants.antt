use Rattle.std.proofs.Common.{◌≡◌, map, take}
use Rattle.bk_live.specs.Counts.{length_of}
use Rattle.bk_live.proofs.counts.Counts.lengths.Given as goal

abbrev pub invariant-loop-row : goal.invariant-loop-row
invariant-loop-row l = l.lengths.items ≡ map length_of (take l.row-index l.self)
