use Rattle.std.proofs.Common.{◌≡◌, ◌*◌, ◌≤◌, length, take}
use Rattle.std.specs.Prelude.{sum_by}
use Rattle.bk_link.proofs.object.code_size.Given as goal

abbrev pub invariant-loop-piece : goal.invariant-loop-piece
invariant-loop-piece l = record {
  summed : l.words ≡ sum_by (λ p. length p.code) (take l.piece-index l.pieces);
  few : l.words ≤ 18446744073709551616 * l.piece-index;
}
