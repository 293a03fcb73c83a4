use Rattle.std.proofs.Common.{◌≡◌, ◌+◌, ◌*◌, ◌++◌, ◌≤◌, length, drop}
use Rattle.std.specs.Prelude.{sum_by}
use Rattle.bk_link.specs.Addresses.{find_in}
use Rattle.bk_link.specs.Texts.{text_of}
use Rattle.bk_link.proofs.texts.text_of.Given as goal

abbrev pub invariant-loop-piece : goal.invariant-loop-piece
invariant-loop-piece l = record {
  made : l.text.items ++ text_of l.target (find_in l.addresses) l.address (drop l.piece-index l.pieces) ≡ text_of l.target (find_in l.addresses) 65536 l.pieces;
  room : l.address + 4 * sum_by (λ p. length p.code) (drop l.piece-index l.pieces) ≤ 16842752;
}
