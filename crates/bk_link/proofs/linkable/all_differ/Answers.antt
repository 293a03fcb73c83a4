use Rattle.std.proofs.Common.{◌≡◌, ◌∙◌, sym, ℕ, ◌<◌, ◌≢◌, List, [], length, map, refl, subst, arith, Vec, Global}
use Rattle.std.specs.Prelude.{◌↔◌, IsTrue}
use Rattle.std.specs.List.{AllPairs}
use Rattle.std.proofs.lemmas.Bool.{false≢true}
use Rattle.std.proofs.lemmas.List.{length-map}
use Rattle.std.proofs.lemmas.List.Elements.{All-from_get_or}
use borrow.Author.Count.{below_more}
use Rattle.bk_piece.specs.Filled.{area}
use Rattle.bk_piece.specs.Rising.{full}
use Rattle.bk_link.proofs.linkable.all_differ.Goals as goal

abbrev Differ : List ℕ → Type 0
Differ ws = AllPairs (λ x y. x ≢ y) (full ws)

abbrev areas : List (Vec ℕ Global) → List (List ℕ)
areas words = map (λ w. w.items) words

-- there are as many areas
as_many : (words : List (Vec ℕ Global)) → length (areas words) ≡ length words
as_many words = length-map words (λ w. w.items)

pub returns-then-not-differ : goal.returns-then-not-differ
returns-then-not-differ c =
    let told = subst (λ (ws : List ℕ). IsTrue c.in_ok-differ.differ ↔ Differ ws) c.area.ensures c.in_ok-differ.ensures in
    let within : c.loop-place.place < length (areas c.args.words.now) = omega (arith, as_many c.args.words.now, c.loop-place-test.true) in
    ((λ e. absurd (false≢true e)), (λ all. sym c.if-not-differ.true ∙ told.1 (all c.loop-place.place [] within)))

pub loop-place-preserved : goal.loop-place-preserved
loop-place-preserved c =
    let told = subst (λ (ws : List ℕ). IsTrue c.in_ok-differ.differ ↔ Differ ws) c.area.ensures c.in_ok-differ.ensures in
    below_more (λ k. Differ (area (areas c.args.words.now) k)) c.loop-place.place c.loop-place.invariant (told.0 c.if-not-differ.false)

pub returns : goal.returns
returns c =
    let long = as_many c.args.words.now in
    ((λ t. All-from_get_or Differ (areas c.args.words.now) [] (λ k l. c.loop-place.invariant k (omega (arith, l, long, c.loop-place-test.false)))), (λ all. refl))
