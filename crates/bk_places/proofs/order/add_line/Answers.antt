use Rattle.std.proofs.Common.{arith}
use Rattle.bk_places.proofs.Adding.{line_none, line_more, line_all}
use Rattle.bk_places.proofs.order.add_line.Goals as goal

pub loop-index-init : goal.loop-index-init
loop-index-init c = line_none c.args.edges.now c.args.places.now

pub loop-index-preserved : goal.loop-index-preserved
loop-index-preserved c =
    line_more c.args.edges.now c.loop-index.edges c.add.new.self c.args.places.now c.loop-index.index (omega arith) c.loop-index-test.true c.requires c.loop-index.invariant c.in_ok-add.ensures

pub returns : goal.returns
returns c = line_all c.args.edges.now c.loop-index.edges c.args.places.now c.loop-index.index c.loop-index-test.false c.loop-index.invariant
