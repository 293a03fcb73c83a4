use Rattle.std.proofs.Common.{◌≡◌}
use Rattle.bk_dec64.specs.Decomposed.{placed}
use Rattle.bk_dec64.specs.Named.{HasPlaces}
use Rattle.bk_dec64.proofs.places.place_each.Given as goal

abbrev pub invariant-loop-one : goal.invariant-loop-one
invariant-loop-one l = record {
  places : HasPlaces l.blocks l.places;
  blocks : placed l.one-iterator.rest.items l.blocks ≡ placed l.fn.made.items l.fn.blocks;
}
