use Rattle.std.proofs.Common.{arith, rules}
use Rattle.bk_graph.proofs.Ending.{same_lists}
use Rattle.bk_graph.proofs.settling.are_equal.Goals as goal

pub returns : goal.returns
returns c = λ e. same_lists c.args.first.now c.args.second.now (search rules) (λ k l. c.loop-place.invariant k (omega (arith, l, c.loop-place-test.false)))
