use Rattle.std.proofs.Common.{◌≡◌, [], take}
use Rattle.std.specs.List.{fold}
use Rattle.bk_shuffle.specs.Sequence.{with_move}
use Rattle.bk_shuffle.specs.Left.{AreLeft, AreFree}
use Rattle.bk_shuffle.proofs.left.gather.Given as goal

abbrev pub invariant-loop-edge : goal.invariant-loop-edge
invariant-loop-edge l = record {
  entries : l.left.entries ≡ fold with_move [] (take l.edge-index l.moves);
  left : AreLeft l.left;
  free : AreFree l.free l.left (λ p. 0);
}
