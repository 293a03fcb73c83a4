use Rattle.std.proofs.Common.{◌∙◌, ap, cond, Some, arith}
use Rattle.std.specs.BTreeMap.{get, is_at}
use Rattle.std.specs.Option.{unwrap_or}
use Rattle.std.specs.Ordering.{nat_cmp}
use Rattle.bk_func.specs.Records.{BlockRecord}
use Rattle.bk_dec64.proofs.Placed.{places_more}
use Rattle.bk_dec64.proofs.places.Places.new.Goals as goal

pub loop-place-preserved : goal.loop-place-preserved
loop-place-preserved c =
    let i = c.loop-place.place in
    let first = c.first_place-first.result in
    let named = ap (λ (b : BlockRecord). b.id) c.block.view_is in
    places_more (λ (b : BlockRecord). b.id) c.args.blocks.now i c.index-blocks-place.result (λ n. get nat_cmp c.loop-place.places n)
    (λ n. get nat_cmp c.insert.new.self n) first (omega arith) c.index-blocks-place.is c.loop-place.invariant
    (c.first_place-first.ensures ∙ ap (λ o. unwrap_or o i) (c.copied.ensures ∙ (c.get.ensures.value ∙ ap (λ k. get nat_cmp c.loop-place.places k) named)))
    (λ n. c.in_ok-insert.ensures.updates.0 n ∙ ap (λ k. cond (is_at (nat_cmp k) n) (Some first) (get nat_cmp c.loop-place.places n)) named)
