use Rattle.std.proofs.Common.{◌≡◌, ◌+◌, ◌≤◌, length, drop}
use Rattle.bk_piece.specs.Rising.{full}
use Rattle.bk_link.proofs.cells.count_keys.Given as goal

abbrev pub invariant-loop-word : goal.invariant-loop-word
invariant-loop-word l = record {
  counted : l.count + length (full (drop l.word-index l.words)) ≡ length (full l.words);
  most : l.count ≤ l.word-index;
}
