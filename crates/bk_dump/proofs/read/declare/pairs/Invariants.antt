use Rattle.std.proofs.Common.{◌≡◌, ◌*◌, ◌++◌, drop}
use Rattle.bk_dump.specs.Drafts.{pairs}
use Rattle.bk_dump.proofs.read.declare.pairs.Given as goal

abbrev pub invariant-loop-pair : goal.invariant-loop-pair
invariant-loop-pair l = l.bytes.items ++ pairs (drop (2 * l.pair) l.hex) ≡ pairs l.hex
