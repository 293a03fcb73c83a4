use Rattle.std.proofs.Common.{rules, ◌≡◌, ℕ, ◌+◌, ◌<◌, ◌≤◌, ◌∙◌, sym, ap, subst, arith, List, [], ◌∷◌, ◌++◌, length, map, take, drop}
use Rattle.std.specs.Prelude.{slice_index}
use Rattle.bk_places.proofs.Counting.{with_same, no_keys}
use Rattle.bk_places.proofs.Leaving.{left_of, left_shorter}
use Rattle.bk_places.specs.Counts.{count_in}
use Rattle.bk_mean.specs.Dues.{AreFree, Released, taken_in, seen_due}
use Rattle.bk_mean.proofs.Releasing.{taken_of, taken_low, without_due}
use Rattle.bk_mean.proofs.Arranging.{State, state_start, state_more, state_end, own_place, enough_uses, low_reverse, none_has}
use Rattle.std.proofs.lemmas.List.{length-map}
use Rattle.bk_mean.proofs.arrange.arrange.Goals as goal

pub loop-last-init : goal.loop-last-init
loop-last-init c =
    let n : length c.in_ok-uses.uses.items ≡ length c.args.due.now = search rules in
    let z : c.in_ok-order.order.items ≡ [] = search rules in
    let P : List ℕ → Type 0 = λ xs. State c.args.due.now (map (λ t. t.items) c.args.takes.now) xs c.in_ok-uses.uses.items c.in_ok-free.free in
    let Q : List ℕ → Type 0 = λ us. AreFree c.args.due.now us (length c.args.due.now) c.in_ok-free.free in
    let m : length (map (λ t. t.items) c.args.takes.now) ≡ length c.args.due.now = simp length-map c.requires.length in
    subst P (sym z) (state_start c.args.due.now (map (λ t. t.items) c.args.takes.now) c.in_ok-uses.uses.items c.in_ok-free.free m n c.requires.within c.in_ok-uses.ensures.counts (subst Q c.deref.ensures.value c.in_ok-free.ensures))

pub offset_bounds-takes-last : goal.offset_bounds-takes-last
offset_bounds-takes-last c =
    let l = own_place c.args.due.now (map (λ t. t.items) c.args.takes.now) c.loop-last.order.items c.loop-last.uses.items c.loop-last.free c.in-Some.last c.loop-last.invariant c.in-Some.ensures.member in
    let h : c.in-Some.last.place < length c.args.takes.now = omega (arith, l, c.requires.length) in
    search rules

pub bounds-takes-last : goal.bounds-takes-last
bounds-takes-last c =
    let l = own_place c.args.due.now (map (λ t. t.items) c.args.takes.now) c.loop-last.order.items c.loop-last.uses.items c.loop-last.free c.in-Some.last c.loop-last.invariant c.in-Some.ensures.member in
    omega (arith, l, c.requires.length)

pub release-requires-clause-within : goal.release-requires-clause-within
release-requires-clause-within c = λ k d l.
    let p = own_place c.args.due.now (map (λ t. t.items) c.args.takes.now) c.loop-last.order.items c.loop-last.uses.items c.loop-last.free c.in-Some.last c.loop-last.invariant c.in-Some.ensures.member in
    let e : c.index-takes-last.result.items ≡ c.as_slice.result.now = search rules in
    let n : length c.deref_mut.result.now ≡ length c.args.due.now = ap length c.deref_mut.ensures.value ∙ c.loop-last.invariant.filling.size in
    let low = taken_low (length c.args.due.now) (map (λ t. t.items) c.args.takes.now) c.requires.within c.in-Some.last.place c.as_slice.result.now
    (taken_of (λ t. t.items) c.args.takes.now c.in-Some.last.place c.index-takes-last.result (omega (arith, p, c.requires.length)) c.index-takes-last.is ∙ e) k d l in
    omega (arith, low, n)

pub release-requires-clause-enough : goal.release-requires-clause-enough
release-requires-clause-enough c = λ y.
    let p = own_place c.args.due.now (map (λ t. t.items) c.args.takes.now) c.loop-last.order.items c.loop-last.uses.items c.loop-last.free c.in-Some.last c.loop-last.invariant c.in-Some.ensures.member in
    let e : c.index-takes-last.result.items ≡ c.as_slice.result.now = search rules in
    let t = taken_of (λ t. t.items) c.args.takes.now c.in-Some.last.place c.index-takes-last.result (omega (arith, p, c.requires.length)) c.index-takes-last.is ∙ e in
    let P : List ℕ → Type 0 = λ ts. count_in y ts ≤ slice_index c.loop-last.uses.items y in
    let Q : List ℕ → Type 0 = λ us. count_in y c.as_slice.result.now ≤ slice_index us y in
    subst Q (sym c.deref_mut.ensures.value)
    (subst P t (enough_uses c.args.due.now (map (λ t. t.items) c.args.takes.now) c.loop-last.order.items c.loop-last.uses.items c.loop-last.free c.in-Some.last c.requires.within c.loop-last.invariant c.in-Some.ensures.member y))

pub loop-last-smaller : goal.loop-last-smaller
loop-last-smaller c =
    let P : List ℕ → Type 0 = λ xs. length (left_of (length c.args.due.now) xs) < length (left_of (length c.args.due.now) c.loop-last.order.items) in
    subst P (sym c.in_ok-push.ensures.items) (left_shorter (length c.args.due.now) c.loop-last.order.items c.in-Some.last.place ((c.loop-last.invariant.frees (seen_due c.in-Some.last)).0 c.in-Some.ensures.member).0)

pub loop-last-preserved : goal.loop-last-preserved
loop-last-preserved c =
    let p = own_place c.args.due.now (map (λ t. t.items) c.args.takes.now) c.loop-last.order.items c.loop-last.uses.items c.loop-last.free c.in-Some.last c.loop-last.invariant c.in-Some.ensures.member in
    let e : c.index-takes-last.result.items ≡ c.as_slice.result.now = search rules in
    let t = taken_of (λ t. t.items) c.args.takes.now c.in-Some.last.place c.index-takes-last.result (omega (arith, p, c.requires.length)) c.index-takes-last.is ∙ e in
    let s = c.loop-last.invariant.filling.size in
    let v : length c.release.new.uses ≡ length c.loop-last.uses.items = c.in_ok-release.ensures.size ∙ ap length c.deref_mut.ensures.value in
    let n : length c.loop-last.uses.items ≡ c.loop-last.uses.len = search rules in
    let w = with_same c.loop-last.uses.len c.release.new.uses c.loop-last.uses.items v n in
    let P : List ℕ → Type 0 = λ xs. State c.args.due.now (map (λ t. t.items) c.args.takes.now) xs (take c.loop-last.uses.len (c.release.new.uses ++ drop (length c.release.new.uses) c.loop-last.uses.items)) c.release.new.free in
    let Q : List ℕ → Type 0 = λ us. State c.args.due.now (map (λ t. t.items) c.args.takes.now) (c.loop-last.order.items ++ c.in-Some.last.place ∷ []) us c.release.new.free in
    let R : List ℕ → Type 0 = λ ts. Released c.args.due.now ts c.release.new.uses c.pop_last.new.self c.release.new.free in
    let U : List ℕ → Type 0 = λ us. (y : ℕ) → slice_index c.release.new.uses y + count_in y (taken_in (map (λ t. t.items) c.args.takes.now) c.in-Some.last.place) ≡ slice_index us y in
    subst P (sym c.in_ok-push.ensures.items) (subst Q (sym w)
    (state_more c.args.due.now (map (λ t. t.items) c.args.takes.now) c.loop-last.order.items c.loop-last.uses.items c.release.new.uses c.loop-last.free c.pop_last.new.self c.release.new.free c.in-Some.last
    c.requires.places c.loop-last.invariant c.in-Some.ensures.member (λ d h. c.in-Some.ensures.greatest _ h)
    (without_due c.in-Some.last c.loop-last.free c.pop_last.new.self c.in-Some.ensures.updates.0) (v ∙ s)
    (subst U c.deref_mut.ensures.value (λ y. ap (λ ts. slice_index c.release.new.uses y + count_in y ts) t ∙ c.in_ok-release.ensures.uses y))
    (subst R (sym t) c.in_ok-release.ensures.free)))

pub returns-clause-within : goal.returns-clause-within
returns-clause-within c = low_reverse (length c.args.due.now) c.loop-last.order.items c.loop-last.invariant.low c.reverse.new.self.items c.reverse.ensures.items

pub returns-clause-filled : goal.returns-clause-filled
returns-clause-filled c = λ all r falls.
    let z = no_keys c.loop-last.free.keys (λ l. let x = c.in_default.ensures.variant.1 l in absurd cc) in
    rw c.reverse.ensures.items
    (state_end c.args.due.now (map (λ t. t.items) c.args.takes.now) c.loop-last.order.items c.loop-last.uses.items c.loop-last.free c.requires.places c.loop-last.invariant (none_has c.loop-last.free z) all r falls)
