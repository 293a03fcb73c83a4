-- the blocks so far
use Rattle.std.proofs.Common.{◌≡◌, length, map, take}
use Rattle.bk_live.specs.Table.{next_in}
use Rattle.bk_alloc.specs.Blocks.{allot}
use Rattle.bk_alloc.specs.Placement.{laid_out, registers_of}
use Rattle.bk_alloc.proofs.parts.allot.Given as goal

abbrev pub invariant-loop-number : goal.invariant-loop-number
invariant-loop-number l =
    l.parts ≡ allot (next_in l.table) (length (registers_of l.target)) (laid_out l.plans.blocks.now (take l.number-index l.layout) (map (λ o. o.items) l.plans.orders.now))
