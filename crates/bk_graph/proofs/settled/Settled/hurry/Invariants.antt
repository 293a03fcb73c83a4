use Rattle.bk_graph.specs.Reads.{Steps}
use Rattle.bk_graph.proofs.settled.Settled.hurry.Given as goal

abbrev pub invariant-loop-block : goal.invariant-loop-block
invariant-loop-block l = Steps l.fn.self l.self

abbrev pub invariant-loop-step : goal.invariant-loop-step
invariant-loop-step l = Steps l.fn.self l.self
