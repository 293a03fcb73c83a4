use Rattle.std.proofs.Common.{◌≡◌, ◌-◌, length}
use Rattle.bk_graph.specs.Roots.{follow, root_in}
use Rattle.bk_graph.proofs.roots.Roots.root.Given as goal

abbrev pub invariant-loop-step : goal.invariant-loop-step
invariant-loop-step l = follow (length l.self-inside.above.items - l._step) l.self-inside.above.items l.at ≡ root_in l.self-inside.above.items l.place
