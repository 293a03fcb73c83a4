use Rattle.std.proofs.Common.{rules, ◌≡◌, ◌∙◌, ◌↔◌, sym, ap, subst, ℕ, List, [], length, Some, arith}
use Rattle.std.specs.List.{Contains, slice_get}
use Rattle.std.proofs.lemmas.Option.{same_Some}
use Rattle.bk_func.specs.Records.{ValueRecord}
use Rattle.bk_places.proofs.Filling.{Filled, filled_more, item_at}
use Rattle.bk_sched.proofs.Placing.{Takes, takes_all}
use Rattle.bk_sched.proofs.order.takes.Goals as goal

pub loop-value-preserved : goal.loop-value-preserved
loop-value-preserved c =
    let same = c.deref-value-items.ensures.value ∙ ap (λ b. b.values) c.block.view_is in
    let at = item_at same c.loop-value.value-index c.value-item.result c.loop-value-test.true c.value-item.is in
    filled_more c.loop-value.invariant c.in_ok-taken.taken.items c.push.new.self
    (λ v e. subst (λ (w : ValueRecord). (q : ℕ) → Contains c.in_ok-taken.taken.items q ↔ Takes c.args.places.now.numbers.items c.len-count.result w q) (same_Some c.value-item.result v (sym at ∙ e)) c.in_ok-taken.ensures)
    c.in_ok-push.ensures

pub returns : goal.returns
returns c =
    let ns = c.args.places.now.numbers.items in
    let vs = c.args.block.now.values in
    let same = c.deref-value-items.ensures.value ∙ ap (λ b. b.values) c.block.view_is in
    let end : c.loop-value.value-index ≡ length c.deref-value-items.result.now = omega arith in
    let long : c.len-count.result ≡ length c.deref-value-items.result.now = search rules in
    takes_all c.args.block.now c.requires.own ns c.requires.places.known c.loop-value.takes c.loop-value.value-index (end ∙ ap length same)
    (subst (λ (n : ℕ). Filled (λ (p : ℕ) (ps : List ℕ). (v : ValueRecord) → slice_get vs p ≡ Some v → (q : ℕ) → Contains ps q ↔ Takes ns n v q) [] c.loop-value.takes c.loop-value.value-index) (long ∙ ap length same) c.loop-value.invariant)
