use Rattle.std.proofs.Common.{arith}
use Rattle.bk_alloc.specs.Blocks.{PhiRecord, in_slot, slot_move}
use Rattle.bk_alloc.proofs.Growing.{map_flat_more}
use Rattle.bk_alloc.proofs.edges.push_slots.Goals as goal

pub loop-phi-preserved : goal.loop-phi-preserved
loop-phi-preserved c =
    map_flat_more (slot_move c.args.part.now c.args.next.now) (λ (x : PhiRecord). in_slot c.args.next.now.first x.value) c.args.phis.now c.loop-phi.phi-index c.phi-item.result
    c.args.moves.now.items c.loop-phi.moves.items c.push_slot.new.moves.items (omega arith) c.phi-item.is c.loop-phi.invariant c.in_ok-push_slot.ensures
