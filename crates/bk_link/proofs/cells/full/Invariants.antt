use Rattle.std.proofs.Common.{◌≡◌, ◌++◌, drop}
use Rattle.bk_piece.specs.Rising.{full}
use Rattle.bk_link.proofs.cells.full.Given as goal

abbrev pub invariant-loop-word : goal.invariant-loop-word
invariant-loop-word l = l.keys.items ++ full (drop l.word-index l.words) ≡ full l.words
