use Rattle.std.proofs.Common.{arith}
use Rattle.bk_places.specs.Order.{IsLastBefore}
use Rattle.bk_places.proofs.Adding.{each_none, each_more, each_all}
use Rattle.bk_places.proofs.order.put_loads.Goals as goal

pub put_load-requires-clause-within : goal.put_load-requires-clause-within
put_load-requires-clause-within c = λ p m. omega (arith, c.loop-load.invariant.size, c.requires.within p m)

pub loop-load-init : goal.loop-load-init
loop-load-init c = each_none c.args.edges.now c.args.loads.now (IsLastBefore c.args.takes.now c.args.checks.now)

pub loop-load-preserved : goal.loop-load-preserved
loop-load-preserved c =
    each_more c.args.edges.now c.loop-load.edges c.put_load.new.edges c.args.loads.now c.loop-load.load-index (IsLastBefore c.args.takes.now c.args.checks.now) c.loop-load-test.true c.loop-load.invariant
    c.in_ok-put_load.ensures

pub returns : goal.returns
returns c =
    each_all c.args.edges.now c.loop-load.edges c.args.loads.now c.loop-load.load-index (IsLastBefore c.args.takes.now c.args.checks.now) c.loop-load-test.false c.loop-load.invariant
