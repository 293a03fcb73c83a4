use Rattle.std.proofs.Common.{◌∙◌, ap, arith, map, Vec, Global, ℕ}
use Rattle.std.proofs.lemmas.List.{map_push}
use Rattle.bk_sched.specs.Schedule.{IsSchedule}
use Rattle.bk_work.proofs.Pairs.{each_next, each_none}
use Rattle.bk_work.proofs.framing.orders.Goals as goal

pub loop-block-init : goal.loop-block-init
loop-block-init c =
    each_none IsSchedule c.args.blocks.now (map (λ (o : Vec ℕ Global). o.items) c.in_ok-orders.orders.items) (ap (map (λ (o : Vec ℕ Global). o.items)) c.in_ok-orders.ensures.items)

pub loop-block-preserved : goal.loop-block-preserved
loop-block-preserved c =
    let seen = map (λ (o : Vec ℕ Global). o.items) in
    let grown = ap seen c.in_ok-put.ensures ∙ map_push (λ (o : Vec ℕ Global). o.items) c.loop-block.orders.items c.in_ok-order.order in
    each_next IsSchedule c.args.blocks.now c.loop-block.block-index c.block-item.result (seen c.loop-block.orders.items) (seen c.put.new.list.items) c.in_ok-order.order.items
    (omega arith) c.block-item.is c.loop-block.invariant c.in_ok-order.ensures grown
