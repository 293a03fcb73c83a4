use Rattle.std.proofs.Common.{arith}
use Rattle.bk_alloc.specs.Placing.{slots_in}
use Rattle.bk_alloc.proofs.Growing.{gathers_more}
use Rattle.bk_alloc.proofs.homes.add_parts.Goals as goal

pub loop-part-preserved : goal.loop-part-preserved
loop-part-preserved c =
    gathers_more slots_in c.args.parts.now c.loop-part.part-index c.part-item.result c.args.values.now c.loop-part.values c.add_part.new.values (omega arith) c.part-item.is c.loop-part.invariant
    c.in_ok-add_part.ensures
