use Rattle.std.proofs.Common.{ℕ, ◌<◌, get_or, sym, subst, take}
use Rattle.std.proofs.lemmas.List.{take_all}
use Rattle.std.proofs.lemmas.List.Elements.{All-more, All-nil, All-same}
use Rattle.bk_form.proofs.rounds.all_above.Goals as goal

pub loop-place-init : goal.loop-place-init
loop-place-init c = All-nil (λ (p : ℕ). 0 < get_or c.args.ranks.now p 0 → (0 < c.args.low × c.args.low < get_or c.args.ranks.now p 0))

pub loop-place-preserved : goal.loop-place-preserved
loop-place-preserved c =
    let i = c.loop-place.place-index in
    All-more (λ (p : ℕ). 0 < get_or c.args.ranks.now p 0 → (0 < c.args.low × c.args.low < get_or c.args.ranks.now p 0)) c.args.places.now i 0 c.loop-place-test.true c.loop-place.invariant
    (subst (λ (h : ℕ). 0 < h → (0 < c.args.low × c.args.low < h)) c.rank-high.ensures (c.rises-rises.ensures c.if-not-rises.false))

pub returns : goal.returns
returns c = λ t.
    let i = c.loop-place.place-index in
    let places = c.args.places.now in
    All-same (λ (p : ℕ). 0 < get_or c.args.ranks.now p 0 → (0 < c.args.low × c.args.low < get_or c.args.ranks.now p 0)) places (take i places) (sym (take_all i places c.loop-place-test.false)) c.loop-place.invariant
