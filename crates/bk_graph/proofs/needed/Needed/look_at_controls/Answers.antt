use Rattle.std.proofs.Common.{◌∙◌, ℕ, Bool, List}
use Rattle.bk_graph.specs.declared.settled.Settled.{Settled}
use Rattle.bk_graph.specs.Marks.{IsControlDone}
use Rattle.bk_graph.specs.Reads.{facts, tables_in}
use Rattle.bk_graph.proofs.Sweeping.{swept}
use Rattle.bk_graph.proofs.needed.Needed.look_at_controls.Goals as goal

pub loop-block-preserved : goal.loop-block-preserved
loop-block-preserved c = record {
  settled = c.mark_control-more.ensures.settled ∙ c.loop-block.invariant.settled;
  marks = c.mark_control-more.ensures.marks;
  none = swept (λ (s : Settled) (m : List Bool) (k : ℕ). IsControlDone (tables_in s) (facts s) m k) c.args.self.now.settled.now c.loop-block.self.settled.now c.args.self.now.needed.items
      c.loop-block.self.needed.items c.mark_control-more.new.self.needed.items c.loop-block.block c.loop-block.changed c.mark_control-more.result c.either-changed.result c.loop-block.invariant.settled
      c.loop-block.invariant.none c.mark_control-more.ensures.none c.either-changed.ensures;
}
