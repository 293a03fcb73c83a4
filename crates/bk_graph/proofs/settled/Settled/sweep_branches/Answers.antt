use Rattle.std.proofs.Common.{◌∙◌, ap, ℕ}
use Rattle.bk_graph.specs.Cleaned.{IsBranchDone}
use Rattle.bk_graph.specs.Facts.{Facts}
use Rattle.bk_graph.specs.Reads.{facts, tables_in}
use Rattle.bk_graph.specs.Settling.{tables}
use Rattle.bk_graph.specs.Tables.{Tables}
use Rattle.bk_graph.proofs.Sweeping.{swept}
use Rattle.bk_graph.proofs.settled.Settled.sweep_branches.Goals as goal

pub loop-block-preserved : goal.loop-block-preserved
loop-block-preserved c = record {
  graph = c.attempt_branch-more.ensures.step.graph ∙ c.loop-block.invariant.graph;
  right = c.attempt_branch-more.ensures.step.right;
  none = swept (λ (t : Tables) (F : Facts) (k : ℕ). IsBranchDone t F k) (tables_in c.args.self.now) (tables_in c.loop-block.self) (facts c.args.self.now) (facts c.loop-block.self)
      (facts c.attempt_branch-more.new.self) c.loop-block.block c.loop-block.changed c.attempt_branch-more.result c.either-changed.result (ap tables c.loop-block.invariant.graph)
      c.loop-block.invariant.none c.attempt_branch-more.ensures.none c.either-changed.ensures;
}
