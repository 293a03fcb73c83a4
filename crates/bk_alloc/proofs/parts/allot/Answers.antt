use Rattle.std.proofs.Common.{◌∙◌, arith, length, map, sym}
use Rattle.bk_live.specs.Table.{next_in}
use Rattle.bk_alloc.specs.Placement.{planned, registers_of}
use Rattle.bk_alloc.proofs.Laying.{allot_more, allot_none}
use Rattle.bk_alloc.proofs.parts.allot.Goals as goal

pub loop-number-init : goal.loop-number-init
loop-number-init c = c.new.ensures.items ∙ sym (allot_none (next_in c.args.table.now) (length (registers_of c.args.target)))

pub loop-number-preserved : goal.loop-number-preserved
loop-number-preserved c =
    allot_more (next_in c.args.table.now) (length (registers_of c.args.target)) (planned c.args.plans.now.blocks.now (map (λ o. o.items) c.args.plans.now.orders.now)) c.args.layout.now
    c.loop-number.number-index c.loop-number.parts c.add_planned.new.self c.in_ok-plan.plan (omega arith) c.in_ok-plan.ensures c.loop-number.invariant c.in_ok-add_planned.ensures
