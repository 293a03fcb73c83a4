use Rattle.std.proofs.Common.{◌≡◌, ◌*◌, ◌-◌, ◌++◌, length}
use Rattle.std.specs.BTreeMap.{values}
use Rattle.bk_shuffle.specs.Sequence.{sequenced, sequence_of}
use Rattle.bk_shuffle.specs.Left.{AreKnown}
use Rattle.bk_shuffle.proofs.moves.in_turn.Given as goal

-- the pairs so far and those of the moves that are left
abbrev pub invariant-loop-turn : goal.invariant-loop-turn
invariant-loop-turn l = record {
  known : AreKnown l.left l.counts l.free;
  pairs : l.pairs.items ++ sequenced (length l.moves * 2 - l.turn) (values l.left) ≡ sequence_of l.moves;
}
