use Rattle.std.proofs.Common.{arith, map}
use Rattle.std.specs.Borrow.{Bor}
use Rattle.bk_func.specs.Numbers.{value_in}
use Rattle.bk_func.specs.Records.{ValueRecord}
use Rattle.bk_alloc.proofs.Growing.{filter_map_more}
use Rattle.bk_alloc.proofs.plan.ordered.Goals as goal

pub loop-number-preserved : goal.loop-number-preserved
loop-number-preserved c =
    filter_map_more (value_in c.args.values.now) c.args.order.now c.loop-number.number-index 0 (map (λ (v : Bor ValueRecord). v.now) c.loop-number.list.items)
    (map (λ (v : Bor ValueRecord). v.now) c.push_named.new.list.items) (omega arith) c.loop-number.invariant c.in_ok-push_named.ensures
