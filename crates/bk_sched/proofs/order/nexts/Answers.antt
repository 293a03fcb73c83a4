use Rattle.std.proofs.Common.{◌≡◌, ◌∙◌, ◌↔◌, sym, ap, subst, ℕ, Bool, List, length, true, false, Some, arith}
use Rattle.std.specs.List.{slice_get}
use Rattle.std.proofs.lemmas.Option.{same_Some}
use Rattle.std.proofs.lemmas.Result.{IfOk-weaker}
use Rattle.bk_func.specs.Records.{ValueRecord}
use Rattle.bk_places.proofs.Filling.{Filled, filled_more, item_at}
use Rattle.bk_sched.specs.Arranged.{IsNext}
use Rattle.bk_sched.proofs.Grouping.{listed_of}
use Rattle.bk_sched.proofs.order.nexts.Goals as goal

pub loop-value-preserved : goal.loop-value-preserved
loop-value-preserved c =
    let same = c.deref-value-items.ensures.value ∙ ap (λ b. b.values) c.block.view_is in
    let at = item_at same c.loop-value.value-index c.value-item.result c.loop-value-test.true c.value-item.is in
    let is_next : (c.is_state-is_next.result ≡ true) ↔ IsNext c.value-item.result = ((λ t. sym c.is_state-is_next.ensures ∙ t), (λ t. c.is_state-is_next.ensures ∙ t)) in
    filled_more c.loop-value.invariant c.is_state-is_next.result c.push.new.self.items
    (λ v e. subst (λ (w : ValueRecord). (c.is_state-is_next.result ≡ true) ↔ IsNext w) (same_Some c.value-item.result v (sym at ∙ e)) is_next) c.in_ok-push.ensures.items

pub members-requires : goal.members-requires
members-requires c = c.requires.names

pub returns : goal.returns
returns c =
    let vs = c.args.block.now.values in
    let same = c.deref-value-items.ensures.value ∙ ap (λ b. b.values) c.block.view_is in
    let end : c.loop-value.value-index ≡ length c.deref-value-items.result.now = omega arith in
    let picked = subst (λ (bs : List Bool). Filled (λ (p : ℕ) (b : Bool). (v : ValueRecord) → slice_get vs p ≡ Some v → (b ≡ true) ↔ IsNext v) false bs c.loop-value.value-index) (sym c.deref.ensures.value) c.loop-value.invariant in
    IfOk-weaker c.members.result _ _
    (λ es h. listed_of vs c.args.states c.args.names.now IsNext c.deref.result.now c.loop-value.value-index es c.requires.size (end ∙ ap length same) picked h)
    c.members.ensures
