use Rattle.std.proofs.Common.{◌≡◌, take}
use Rattle.bk_graph.specs.Marks.{marked}
use Rattle.bk_graph.specs.Reads.{facts, tables_in}
use Rattle.bk_graph.specs.Rebuilt.{kept_blocks}
use Rattle.bk_graph.proofs.rebuilt.kept_blocks.Given as goal

abbrev pub invariant-loop-place : goal.invariant-loop-place
invariant-loop-place l = l.kept.items ≡ kept_blocks (tables_in l.settled) (facts l.settled) (marked l.needed.needed.items) (take l.place l.blocks)
