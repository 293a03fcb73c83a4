use Rattle.std.proofs.Common.{◌≡◌, take}
use Rattle.bk_graph.specs.Reads.{facts, tables_in}
use Rattle.bk_graph.specs.Rebuilt.{kept_args}
use Rattle.bk_graph.proofs.rebuilt.kept_args.Given as goal

abbrev pub invariant-loop-index : goal.invariant-loop-index
invariant-loop-index l = l.kept.items ≡ kept_args (tables_in l.settled) (facts l.settled) l.is_phi l.edges l.places (take l.index l.args)
