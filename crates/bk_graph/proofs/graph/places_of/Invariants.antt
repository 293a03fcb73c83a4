use Rattle.std.proofs.Common.{◌≡◌, map, take}
use Rattle.bk_graph.specs.Nodes.{place_by}
use Rattle.bk_graph.proofs.graph.places_of.Given as goal

abbrev pub invariant-loop-number : goal.invariant-loop-number
invariant-loop-number l = l.found.items ≡ map (place_by l.places) (take l.number-index l.numbers)
