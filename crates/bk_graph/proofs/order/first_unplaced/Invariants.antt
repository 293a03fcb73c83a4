use Rattle.std.proofs.Common.{◌≡◌, drop}
use Rattle.bk_graph.specs.Placing.{first_in}
use Rattle.bk_graph.proofs.order.first_unplaced.Given as goal

abbrev pub invariant-loop-number : goal.invariant-loop-number
invariant-loop-number l = first_in l.places l.placed (drop l.number-index l.numbers) ≡ first_in l.places l.placed l.numbers
