use Rattle.std.proofs.Common.{map}
use Rattle.bk_live.proofs.next.next_use.Goals as goal

pub returns : goal.returns
returns c = λ i b given at id le. c.next.ensures.next c.args.func.now (map (λ o. o.items) c.args.orders.now) i b (c.in_ok-table.ensures given) at id le
