use Rattle.std.proofs.Common.{◌≡◌, ◌++◌, drop}
use Rattle.bk_emit.specs.Code.{places_from}
use Rattle.bk_emit.proofs.layout.places_of.Given as goal

abbrev pub invariant-loop-width : goal.invariant-loop-width
invariant-loop-width l = l.places.items ++ places_from l.place (drop l.width-index l.widths) ≡ places_from 0 l.widths
