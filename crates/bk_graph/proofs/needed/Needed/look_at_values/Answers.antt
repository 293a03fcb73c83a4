use Rattle.std.proofs.Common.{◌∙◌, ℕ, Bool, List}
use Rattle.bk_graph.specs.declared.settled.Settled.{Settled}
use Rattle.bk_graph.specs.Marks.{IsValueDone}
use Rattle.bk_graph.specs.Reads.{facts, tables_in}
use Rattle.bk_graph.proofs.Sweeping.{swept}
use Rattle.bk_graph.proofs.needed.Needed.look_at_values.Goals as goal

pub loop-place-preserved : goal.loop-place-preserved
loop-place-preserved c = record {
  settled = c.look_at-more.ensures.settled ∙ c.loop-place.invariant.settled;
  marks = c.look_at-more.ensures.marks;
  none = swept (λ (s : Settled) (m : List Bool) (k : ℕ). IsValueDone (tables_in s) (facts s) m k) c.args.self.now.settled.now c.loop-place.self.settled.now c.args.self.now.needed.items
      c.loop-place.self.needed.items c.look_at-more.new.self.needed.items c.loop-place.place c.loop-place.changed c.look_at-more.result c.either-changed.result c.loop-place.invariant.settled
      c.loop-place.invariant.none c.look_at-more.ensures.none c.either-changed.ensures;
}
