use Rattle.std.proofs.Common.{◌∙◌, arith}
use Rattle.bk_graph.proofs.Following.{laid_next, laid_all}
use Rattle.bk_graph.proofs.order.Order.advance_by.Goals as goal

pub loop-step-preserved : goal.loop-step-preserved
loop-step-preserved c = record {
  order = c.in_ok-advance.ensures.order;
  func = c.in_ok-advance.ensures.func ∙ c.loop-step.invariant.func;
  laid = laid_next c.args.count c.loop-step._step c.loop-step.self.func.now c.advance.new.self.func.now c.loop-step.self.numbers.items
      c.advance.new.self.numbers.items _ (omega arith) c.in_ok-advance.ensures.func c.in_ok-advance.ensures.numbers c.loop-step.invariant.laid;
}

pub returns : goal.returns
returns c = laid_all c.args.count c.loop-step._step c.loop-step.self.func.now c.loop-step.self.numbers.items _ (omega arith) c.loop-step.invariant.laid
