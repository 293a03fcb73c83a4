use Rattle.std.proofs.Common.{arith, map}
use Rattle.bk_func.specs.Steps.{seen_step}
use Rattle.bk_alloc.specs.Blocks.{PhiRecord}
use Rattle.bk_alloc.specs.Names.{number_in}
use Rattle.bk_alloc.specs.Placing.{phi_store}
use Rattle.bk_alloc.proofs.Growing.{flat_more}
use Rattle.bk_alloc.proofs.steps.push_stores.Goals as goal

pub loop-phi-preserved : goal.loop-phi-preserved
loop-phi-preserved c =
    flat_more (λ (x : PhiRecord). phi_store (number_in c.args.names.now) c.args.names.now.homes c.args.first.now x.value) c.args.phis.now c.loop-phi.phi-index c.phi-item.result
    (map seen_step c.args.steps.now.items) (map seen_step c.loop-phi.steps.items) (map seen_step c.store_phi.new.steps.items) (omega arith) c.phi-item.is c.loop-phi.invariant
    c.in_ok-store_phi.ensures
