use Rattle.std.proofs.Common.{◌≡◌, take}
use Rattle.bk_graph.specs.Reads.{facts}
use Rattle.bk_graph.specs.Rebuilt.{kept_preds}
use Rattle.bk_graph.proofs.rebuilt.kept_preds.Given as goal

abbrev pub invariant-loop-place : goal.invariant-loop-place
invariant-loop-place l = l.kept.items ≡ kept_preds (facts l.settled) l.edges (take l.place l.preds)
