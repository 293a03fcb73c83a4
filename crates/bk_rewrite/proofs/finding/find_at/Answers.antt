use Rattle.std.proofs.Common.{◌≡◌, refl, arith, length, Some, slice_index_or}
use Rattle.std.specs.Prelude.{slice_get}
use Rattle.std.proofs.lemmas.Option.{slice_get-get_or, slice_get_read, slice_get_within}
use Rattle.bk_rewrite.proofs.Found.{first_rule}
use Rattle.bk_rewrite.proofs.Rooted.{before_this, tried_all, tried_more}
use Rattle.bk_rewrite.proofs.finding.find_at.Goals as goal

pub returns-in-Some-clause-found : goal.returns-in-Some-clause-found
returns-in-Some-clause-found c = λ u.
    let s = c.args.site.now in
    let place = slice_index_or c.args.places.now c.loop-place.place-index 0 in
    let here : slice_get c.args.places.now c.loop-place.place-index ≡ Some place = slice_get-get_or c.args.places.now c.loop-place.place-index 0 (omega arith) in
    let at = c.requires.rooted.sound c.loop-place.place-index place here in
    let within = slice_get_within c.args.rules.now place at.0 at.1 in
    let h = c.in_ok-binds.ensures.found u in
    first_rule s.target s.func.now c.args.rules.now s.value place c.index-rules-place.result c.in-Some.field-0.binds.items c.in-Some.field-0.choices.items
    within c.index-rules-place.is (rw c.in-Some.is at h)
    (before_this s.target s.func.now c.args.rules.now s.value c.args.places.now c.args.value.now c.loop-place.place-index place c.requires.roots c.requires.rooted (c.requires.value u) here
    (c.loop-place.invariant u))

pub returns-in-Some-clause-place : goal.returns-in-Some-clause-place
returns-in-Some-clause-place c =
    let place = slice_index_or c.args.places.now c.loop-place.place-index 0 in
    let here : slice_get c.args.places.now c.loop-place.place-index ≡ Some place = slice_get-get_or c.args.places.now c.loop-place.place-index 0 (omega arith) in
    let at = c.requires.rooted.sound c.loop-place.place-index place here in
    slice_get_within c.args.rules.now place at.0 at.1

pub loop-place-preserved : goal.loop-place-preserved
loop-place-preserved c = λ u.
    let s = c.args.site.now in
    let place = slice_index_or c.args.places.now c.loop-place.place-index 0 in
    let here : slice_get c.args.places.now c.loop-place.place-index ≡ Some place = slice_get-get_or c.args.places.now c.loop-place.place-index 0 (omega arith) in
    let at = c.requires.rooted.sound c.loop-place.place-index place here in
    let within = slice_get_within c.args.rules.now place at.0 at.1 in
    tried_more s.target s.func.now c.args.rules.now s.value c.args.places.now c.loop-place.place-index place c.index-rules-place.result here
    (slice_get_read c.args.rules.now (length c.args.rules.now) place c.index-rules-place.result refl within c.index-rules-place.is)
    (λ numbered. (let h = c.in_ok-binds.ensures.none u (c.requires.value u) numbered in rw c.in_default.is at h))
    (c.loop-place.invariant u)

pub returns-clause-none : goal.returns-clause-none
returns-clause-none c = λ u.
    let s = c.args.site.now in
    tried_all s.target s.func.now c.args.rules.now s.value c.args.places.now c.args.value.now c.loop-place.place-index c.requires.roots c.requires.rooted (c.requires.value u) (omega arith)
    (c.loop-place.invariant u)
