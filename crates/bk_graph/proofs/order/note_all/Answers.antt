use Rattle.std.proofs.Common.{arith}
use Rattle.std.specs.BTreeSet.{contains}
use Rattle.std.specs.Ordering.{nat_cmp}
use Rattle.bk_graph.proofs.Readying.{noted_more}
use Rattle.bk_graph.proofs.order.note_all.Goals as goal

pub loop-number-preserved : goal.loop-number-preserved
loop-number-preserved c = λ q.
    noted_more c.args.places.now c.args.placed.now c.args.numbers.now c.loop-number.number-index q (contains nat_cmp c.args.ready.now q)
    (contains nat_cmp c.loop-number.ready q) (contains nat_cmp c.note.new.ready q) c.unplaced.result (omega arith) (c.loop-number.invariant q)
    c.unplaced.ensures (c.in_ok-note.ensures q)
