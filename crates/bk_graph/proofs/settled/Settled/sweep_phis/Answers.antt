use Rattle.std.proofs.Common.{◌∙◌, ap, ℕ}
use Rattle.bk_graph.specs.Cleaned.{IsPhiDone}
use Rattle.bk_graph.specs.Facts.{Facts}
use Rattle.bk_graph.specs.Reads.{facts, tables_in}
use Rattle.bk_graph.specs.Settling.{tables}
use Rattle.bk_graph.specs.Tables.{Tables}
use Rattle.bk_graph.proofs.Sweeping.{swept}
use Rattle.bk_graph.proofs.settled.Settled.sweep_phis.Goals as goal

pub loop-place-preserved : goal.loop-place-preserved
loop-place-preserved c = record {
  graph = c.attempt_phi-more.ensures.step.graph ∙ c.loop-place.invariant.graph;
  right = c.attempt_phi-more.ensures.step.right;
  none = swept (λ (t : Tables) (F : Facts) (k : ℕ). IsPhiDone t F k) (tables_in c.args.self.now) (tables_in c.loop-place.self) (facts c.args.self.now) (facts c.loop-place.self)
      (facts c.attempt_phi-more.new.self) c.loop-place.place c.loop-place.changed c.attempt_phi-more.result c.either-changed.result (ap tables c.loop-place.invariant.graph)
      c.loop-place.invariant.none c.attempt_phi-more.ensures.none c.either-changed.ensures;
}
