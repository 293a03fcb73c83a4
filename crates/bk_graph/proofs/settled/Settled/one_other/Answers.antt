use Rattle.std.proofs.Common.{arith}
use Rattle.bk_graph.specs.Reads.{facts}
use Rattle.bk_graph.proofs.Others.{seen_one, seen_none}
use Rattle.bk_graph.proofs.settled.Settled.one_other.Goals as goal

pub returns-then-found-own-2-clause-none : goal.returns-then-found-own-2-clause-none
returns-then-found-own-2-clause-none c = λ e.
    seen_none (facts c.args.self.now) c.args.edges.now c.args.args.now c.args.own c.loop-place.place c.loop-place.found c.loop-place.invariant (omega (arith, c.loop-place-test.false)) c.if-found-own-2.true

pub returns-else-found-own-2-clause-some : goal.returns-else-found-own-2-clause-some
returns-else-found-own-2-clause-some c =
    seen_one (facts c.args.self.now) c.args.edges.now c.args.args.now c.args.own c.loop-place.place c.loop-place.found c.loop-place.invariant (omega (arith, c.loop-place-test.false)) c.if-found-own-2.false
