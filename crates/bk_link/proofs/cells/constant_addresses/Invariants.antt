use Rattle.std.proofs.Common.{◌≡◌, take, map}
use Rattle.bk_link.specs.Conditions.{AreLow}
use Rattle.bk_link.specs.Addresses.{constant_address}
use Rattle.bk_link.proofs.cells.constant_addresses.Given as goal

abbrev pub invariant-loop-word : goal.invariant-loop-word
invariant-loop-word l = record {
  made : l.addresses.items ≡ map (constant_address l.pool) (take l.word-index l.words);
  low : AreLow l.addresses.items;
}
