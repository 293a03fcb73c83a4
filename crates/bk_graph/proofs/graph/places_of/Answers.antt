use Rattle.std.proofs.Common.{arith}
use Rattle.bk_graph.specs.Nodes.{place_by}
use Rattle.bk_graph.proofs.Standing.{mapped_more}
use Rattle.bk_graph.proofs.graph.places_of.Goals as goal

pub loop-number-preserved : goal.loop-number-preserved
loop-number-preserved c =
    mapped_more (place_by c.args.places.now) c.args.numbers.now c.loop-number.number-index c.loop-number.found.items c.push.new.self.items
    c.place_or_past.result (omega arith) c.loop-number.invariant c.place_or_past.ensures c.in_ok-push.ensures.items
