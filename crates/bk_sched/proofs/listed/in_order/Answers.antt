use Rattle.std.proofs.Common.{◌∙◌, sym, ap, subst, ℕ, List, map, length, arith}
use Rattle.std.specs.Prelude.{slice_index}
use Rattle.std.specs.List.{range_with_len}
use Rattle.std.proofs.lemmas.List.{length-map}
use Rattle.std.proofs.lemmas.Result.{IfOk-weaker}
use Rattle.bk_func.specs.Records.{ValueRecord}
use Rattle.bk_sched.specs.Schedule.{rank_of}
use Rattle.bk_sched.specs.Turns.{Turned}
use Rattle.bk_sched.proofs.Scheduling.{low_turn, schedule_is}
use Rattle.bk_sched.proofs.listed.in_order.Goals as goal

pub in_turn-requires-clause-size : goal.in_turn-requires-clause-size
in_turn-requires-clause-size c =
    let same = c.deref-values.ensures.value ∙ ap (λ b. b.values) c.block.view_is in
    let scores = c.in_ok-ranks.ensures ∙ ap (map rank_of) same in
    c.in_ok-after.ensures.size ∙ (sym (length-map c.args.block.now.values rank_of) ∙ (ap length (sym scores) ∙ ap length (sym c.deref.ensures.value)))

pub in_turn-requires-clause-within : goal.in_turn-requires-clause-within
in_turn-requires-clause-within c = λ p q edge.
    let low = c.in_ok-after.ensures.within p q edge in
    omega (arith, low, c.in_ok-after.ensures.size)

pub numbers_at-requires : goal.numbers_at-requires
numbers_at-requires c = λ k d l.
    let b = c.args.block.now in
    let same = c.deref-values.ensures.value ∙ ap (λ b. b.values) c.block.view_is in
    let scores = c.in_ok-ranks.ensures ∙ ap (map rank_of) same in
    let turned = subst (λ (ss : List ℕ). Turned ss c.in_ok-after.after (range_with_len 0 (length ss)) c.in_ok-places.places.items) c.deref.ensures.value c.in_ok-places.ensures in
    let turns = subst (λ (ps : List ℕ). Turned c.in_ok-ranks.ranks.items c.in_ok-after.after (range_with_len 0 (length c.in_ok-ranks.ranks.items)) ps) (sym c.deref-2.ensures.value) turned in
    let low = low_turn b c.in_ok-after.after c.in_ok-after.ensures c.in_ok-ranks.ranks.items scores c.deref-2.result.now turns k d l in
    omega (arith, low, ap length same)

pub returns : goal.returns
returns c =
    let b = c.args.block.now in
    let same = c.deref-values.ensures.value ∙ ap (λ b. b.values) c.block.view_is in
    let scores = c.in_ok-ranks.ensures ∙ ap (map rank_of) same in
    let turned = subst (λ (ss : List ℕ). Turned ss c.in_ok-after.after (range_with_len 0 (length ss)) c.in_ok-places.places.items) c.deref.ensures.value c.in_ok-places.ensures in
    let turns = subst (λ (ps : List ℕ). Turned c.in_ok-ranks.ranks.items c.in_ok-after.after (range_with_len 0 (length c.in_ok-ranks.ranks.items)) ps) (sym c.deref-2.ensures.value) turned in
    IfOk-weaker c.numbers_at.result _ _
    (λ ids h. schedule_is b c.in_ok-after.after c.in_ok-after.ensures c.in_ok-ranks.ranks.items scores c.deref-2.result.now turns ids.items
    (h ∙ ap (λ (vs : List ValueRecord). map (λ p. slice_index (map (λ v. v.id) vs) p) c.deref-2.result.now) same))
    c.numbers_at.ensures
