use Rattle.std.proofs.Common.{◌≡◌, ◌∙◌, ◌∷◌, [], ap, sym, subst, ℕ, List, map, get_or}
use Rattle.std.proofs.lemmas.List.{get_or-map, map-append}
use Rattle.bk_live.specs.Counts.{IsCounted}
use Rattle.bk_live.proofs.Counting.{rows_more}
use Rattle.bk_live.proofs.counts.Counts.new.Goals as goal

pub loop-order-preserved : goal.loop-order-preserved
loop-order-preserved c =
    let f = c.args.func.now in
    let i = c.loop-order.order-index in
    let os = map (λ o. o.items) c.args.orders.now in
    let row = c.in_ok-row_of.field-0.items in
    let order : get_or os i [] ≡ c.deref.result.now = get_or-map (λ o. o.items) c.args.orders.now i c.order-item.result [] c.loop-order-test.true ∙ (ap (λ o. o.items) (sym c.order-item.is) ∙ sym c.deref.ensures.value) in
    rows_more f os (map (λ r. r.items) c.loop-order.rows.items) (map (λ r. r.items) c.push.new.self.items) i row
    (ap (map (λ r. r.items)) c.in_ok-push.ensures.items ∙ map-append (λ r. r.items) c.loop-order.rows.items (c.in_ok-row_of.field-0 ∷ []))
    (subst (λ (o : List ℕ). IsCounted f o row) (sym order) (c.in_ok-row_of.ensures f c.in_ok-phis.ensures)) c.loop-order.invariant
