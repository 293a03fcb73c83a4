use Rattle.std.proofs.Common.{◌≡◌, ◌++◌, take}
use Rattle.bk_graph.specs.Critical.{edges_from}
use Rattle.bk_graph.proofs.critical.push_to_several.Given as goal

abbrev pub invariant-loop-index : goal.invariant-loop-index
invariant-loop-index l = l.edges.items ≡ l.initial.edges.items ++ edges_from l.blocks l.from 0 (take l.index l.succs)
