use Rattle.std.proofs.Common.{ℕ, ◌||◌, not, arith}
use Rattle.std.specs.List.{slice_get}
use Rattle.bk_graph.specs.Nodes.{or_past}
use Rattle.bk_graph.specs.Lists.{picked}
use Rattle.bk_graph.specs.Facts.{edge_stays}
use Rattle.bk_graph.specs.Known.{stays_there}
use Rattle.bk_graph.specs.Reads.{facts, tables_in}
use Rattle.bk_graph.specs.Rebuilt.{standing}
use Rattle.bk_graph.proofs.Standing.{picked_more}
use Rattle.bk_graph.proofs.rebuilt.kept_args.Goals as goal

pub loop-index-preserved : goal.loop-index-preserved
loop-index-preserved c =
    picked_more (λ (k : ℕ). not c.args.is_phi || stays_there (edge_stays (facts c.args.settled.now)) (slice_get c.args.edges.now k))
    (λ (k n : ℕ). standing (tables_in c.args.settled.now) (facts c.args.settled.now) (or_past (slice_get c.args.places.now k)) n) c.args.args.now c.loop-index.index 0
    c.loop-index.kept.items c.push_arg.new.kept.items c.arg_stays-stays.result c.kept_arg.result (omega arith) c.loop-index.invariant c.arg_stays-stays.ensures
    c.kept_arg.ensures c.in_ok-push_arg.ensures

pub loop-index-init : goal.loop-index-init
unfolding picked
loop-index-init c = c.new-kept.ensures.items
