use Rattle.std.proofs.Common.{◌≡◌, ◌-◌}
use Rattle.bk_graph.specs.Layout.{laid_out}
use Rattle.bk_graph.specs.Placing.{IsOrder}
use Rattle.bk_graph.proofs.order.Order.advance_by.Given as goal

abbrev pub invariant-loop-step : goal.invariant-loop-step
invariant-loop-step l = record {
  order : IsOrder l.self;
  func : l.self.func.now ≡ l.initial.self.func.now;
  laid : laid_out (l.count - l._step) l.self.func.now l.self.numbers.items ≡ laid_out l.count l.initial.self.func.now l.initial.self.numbers.items;
}
