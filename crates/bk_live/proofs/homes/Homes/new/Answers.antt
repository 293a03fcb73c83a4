use Rattle.std.proofs.Common.{◌≤◌, ap, length, map, arith}
use Rattle.std.specs.BTreeMap.{is_at}
use Rattle.std.specs.Map.{lookup}
use Rattle.std.specs.Ordering.{nat_cmp}
use Rattle.std.proofs.lemmas.List.{length-map}
use Rattle.bk_live.specs.Homes.{home}
use Rattle.bk_live.proofs.Homing.{homes_none, homes_all}
use Rattle.bk_live.proofs.homes.Homes.new.Goals as goal

pub loop-block-init : goal.loop-block-init
loop-block-init c = homes_none (map (λ o. o.items) c.args.orders.now) (home (record { spots = c.new.result })) (λ n. ap (λ es. lookup (is_at (nat_cmp n)) es) c.new.ensures.empty)

pub returns : goal.returns
returns c =
    let over : length (map (λ o. o.items) c.args.orders.now) ≤ c.loop-block.block = omega (arith, length-map c.args.orders.now (λ o. o.items)) in
    homes_all (map (λ o. o.items) c.args.orders.now) c.loop-block.block (home c.loop-block.homes) over c.loop-block.invariant
