use Rattle.std.proofs.Common.{arith}
use Rattle.bk_alloc.specs.Blocks.{PhiRecord, in_slot}
use Rattle.bk_alloc.proofs.Growing.{gathers_more}
use Rattle.bk_alloc.proofs.homes.add_phis.Goals as goal

pub loop-phi-preserved : goal.loop-phi-preserved
loop-phi-preserved c =
    gathers_more (λ (x : PhiRecord). in_slot c.args.first.now x.value) c.args.phis.now c.loop-phi.phi-index c.phi-item.result c.args.values.now c.loop-phi.values c.add_phi.new.values (omega arith) c.phi-item.is
    c.loop-phi.invariant c.in_ok-add_phi.ensures
