use Rattle.std.proofs.Common.{◌≡◌, ◌≤◌, Some, subst, ℕ, List, length, get_or, map}
use Rattle.std.specs.List.{slice_get}
use Rattle.std.proofs.lemmas.Option.{slice_get-get_or}
use Rattle.bk_live.specs.Homes.{home}
use Rattle.bk_live.specs.Live.{IsEntry, order_at}
use Rattle.bk_live.proofs.Homing.{homes_more, homes_next}
use Rattle.bk_live.proofs.homes.Homes.add.Goals as goal

pub loop-entry-preserved : goal.loop-entry-preserved
loop-entry-preserved c =
    let os = map (λ o. o.items) c.args.orders.now in
    let k = c.loop-entry.entry in
    let xs = c.order_of-number-items.result.now in
    let entry : IsEntry os c.args.block k (get_or xs k 0) =
    subst (λ (us : List ℕ). slice_get us k ≡ Some (get_or xs k 0)) c.order_of-number-items.ensures (slice_get-get_or xs k 0 c.loop-entry-test.true) in
    homes_more os c.args.block k (get_or xs k 0) (home c.loop-entry.self) (home (record { spots = c.insert.new.self })) entry c.loop-entry.invariant c.in_ok-insert.ensures.updates.0

pub returns : goal.returns
returns c =
    let os = map (λ o. o.items) c.args.orders.now in
    let k = c.loop-entry.entry in
    let over : length (order_at os c.args.block) ≤ k = subst (λ (us : List ℕ). length us ≤ k) c.order_of-number-items.ensures c.loop-entry-test.false in
    homes_next os c.args.block k (home c.loop-entry.self) over c.loop-entry.invariant
