use Rattle.std.proofs.Common.{refl, ℕ, arith}
use Rattle.std.specs.List.{slice_get}
use Rattle.bk_graph.specs.Lists.{picked}
use Rattle.bk_graph.specs.Facts.{edge_stays}
use Rattle.bk_graph.specs.Known.{stays_there}
use Rattle.bk_graph.specs.Reads.{facts}
use Rattle.bk_graph.proofs.Standing.{picked_more}
use Rattle.bk_graph.proofs.rebuilt.kept_preds.Goals as goal

pub loop-place-preserved : goal.loop-place-preserved
loop-place-preserved c =
    picked_more (λ (k : ℕ). stays_there (edge_stays (facts c.args.settled.now)) (slice_get c.args.edges.now k)) (λ (k n : ℕ). n) c.args.preds.now c.loop-place.place 0
    c.loop-place.kept.items c.push_if.new.kept.items c.has_edge_at-stays.result _ (omega arith) c.loop-place.invariant c.has_edge_at-stays.ensures refl c.in_ok-push_if.ensures

pub loop-place-init : goal.loop-place-init
unfolding picked
loop-place-init c = c.new-kept.ensures.items
