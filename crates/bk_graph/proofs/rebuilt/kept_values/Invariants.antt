use Rattle.std.proofs.Common.{◌≡◌, take}
use Rattle.bk_graph.specs.Marks.{marked}
use Rattle.bk_graph.specs.Reads.{facts, tables_in}
use Rattle.bk_graph.specs.Rebuilt.{kept_values}
use Rattle.bk_graph.proofs.rebuilt.kept_values.Given as goal

abbrev pub invariant-loop-index : goal.invariant-loop-index
invariant-loop-index l = l.kept.items ≡ kept_values (tables_in l.settled) (facts l.settled) (marked l.needed.needed.items) l.edges l.first (take l.index l.values)
