use Rattle.std.proofs.Common.{◌≡◌, take, map}
use Rattle.bk_link.specs.Conditions.{AreLow}
use Rattle.bk_link.specs.Addresses.{symbol_address}
use Rattle.bk_link.proofs.cells.symbol_addresses.Given as goal

abbrev pub invariant-loop-word : goal.invariant-loop-word
invariant-loop-word l = record {
  made : l.addresses.items ≡ map (symbol_address l.sites) (take l.word-index l.words);
  low : AreLow l.addresses.items;
}
