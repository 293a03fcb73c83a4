use Rattle.std.proofs.Common.{◌≡◌, ◌++◌, map, take}
use Rattle.bk_form.specs.Places.{node_at}
use Rattle.bk_form.proofs.places.push_nodes.Given as goal

abbrev pub invariant-loop-value : goal.invariant-loop-value
invariant-loop-value l = l.nodes.items ≡ l.initial.nodes.items ++ map (node_at l.home) (take l.value-index l.values)
