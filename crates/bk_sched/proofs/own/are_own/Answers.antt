use Rattle.std.proofs.Common.{◌≡◌, ◌∙◌, sym, refl, ap, length, arith}
use Rattle.std.proofs.lemmas.Bool.{false≢true}
use Rattle.bk_places.proofs.Filling.{item_at}
use Rattle.bk_places.specs.Named.{place_in}
use Rattle.bk_sched.proofs.Placing.{own_more, own_all, not_own}
use Rattle.bk_sched.proofs.own.are_own.Goals as goal

pub returns-then-not-is_at : goal.returns-then-not-is_at
returns-then-not-is_at c =
    let same = c.deref-values.ensures.value ∙ ap (λ b. b.values) c.block.view_is in
    let at = item_at same c.loop-place.place c.index-values-place.result c.loop-place-test.true c.index-values-place.is in
    let id = ap (λ v. v.id) c.value.view_is in
    let other = not_own c.args.block.now c.args.places.now.numbers.items c.requires.known c.loop-place.place c.index-values-place.result at
    (λ e. false≢true (sym c.if-not-is_at.true ∙ c.is_at.ensures.1 (c.place-first.ensures ∙ (ap (λ n. place_in c.args.places.now.numbers.items n) id ∙ e)))) in
    ((λ e. absurd (false≢true e)), (λ own. absurd (other own)))

pub loop-place-preserved : goal.loop-place-preserved
loop-place-preserved c =
    let same = c.deref-values.ensures.value ∙ ap (λ b. b.values) c.block.view_is in
    let at = item_at same c.loop-place.place c.index-values-place.result c.loop-place-test.true c.index-values-place.is in
    let id = ap (λ v. v.id) c.value.view_is in
    own_more c.args.block.now.values c.args.places.now.numbers.items c.loop-place.place c.index-values-place.result c.loop-place.invariant at
    (ap (λ n. place_in c.args.places.now.numbers.items n) (sym id) ∙ (sym c.place-first.ensures ∙ c.is_at.ensures.0 c.if-not-is_at.false))

pub returns : goal.returns
returns c =
    let same = c.deref-values.ensures.value ∙ ap (λ b. b.values) c.block.view_is in
    let end : c.loop-place.place ≡ length c.deref-values.result.now = omega arith in
    ((λ e. own_all c.args.block.now c.args.places.now.numbers.items c.loop-place.place c.loop-place.invariant (omega (arith, end, ap length same))), (λ own. refl))
