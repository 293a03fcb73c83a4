use Rattle.std.proofs.Common.{◌≡◌}
use Rattle.bk_graph.specs.Roots.{IsTree, root_in, roots}
use Rattle.bk_graph.proofs.roots.Roots.find.Given as goal

abbrev pub invariant-loop-step : goal.invariant-loop-step
invariant-loop-step l = record {
  tree : IsTree l.self-inside.above.items;
  same : roots l.self-inside.above.items ≡ l.fn.self;
  root : l.root ≡ root_in l.self-inside.above.items l.at;
}
