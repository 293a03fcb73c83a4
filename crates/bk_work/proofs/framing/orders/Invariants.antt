use Rattle.std.proofs.Common.{map, take}
use Rattle.bk_sched.specs.Schedule.{IsSchedule}
use Rattle.bk_work.specs.Each.{Each}
use Rattle.bk_work.proofs.framing.orders.Given as goal

abbrev pub invariant-loop-block : goal.invariant-loop-block
invariant-loop-block l = Each IsSchedule (take l.block-index l.blocks) (map (λ o. o.items) l.orders.items)
