use Rattle.std.proofs.Common.{rules, ◌≡◌, ◌<◌, ◌≤◌, ◌+◌, ◌∙◌, sym, ap, subst, arith, ℕ, List, [], ◌∷◌, ◌++◌, length, take, drop}
use Rattle.std.specs.Prelude.{slice_index}
use Rattle.bk_places.specs.Counts.{count_in}
use Rattle.bk_sched.specs.Turns.{AreReady, Released}
use Rattle.bk_places.proofs.Leaving.{behind, left_of, left_shorter}
use Rattle.bk_places.proofs.Counting.{no_keys, with_same}
use Rattle.bk_sched.proofs.Turning.{State, state_start, state_more, state_end, enough_waits, low_behind, without_turn, none_has}
use Rattle.bk_sched.proofs.turns.in_turn.Goals as goal

pub loop-next-init : goal.loop-next-init
loop-next-init c =
    let z : c.in_ok-order.order.items ≡ [] = search rules in
    let P : List ℕ → Type 0 = λ xs. State c.args.scores.now c.args.after.now xs c.in_ok-waits.waits.items c.in_ok-ready.ready in
    let Q : List ℕ → Type 0 = λ us. AreReady c.args.scores.now us (length c.args.scores.now) c.in_ok-ready.ready in
    subst P (sym z) (state_start c.args.scores.now c.args.after.now c.in_ok-waits.waits.items c.in_ok-ready.ready c.requires.size c.in_ok-waits.ensures.size c.requires.within c.in_ok-waits.ensures.counts
    (subst Q c.deref.ensures.value c.in_ok-ready.ensures))

pub release-requires-clause-within : goal.release-requires-clause-within
release-requires-clause-within c = λ k d l.
    let size : length c.deref_mut.result.now ≡ length c.loop-next.waits.items = ap length c.deref_mut.ensures.value in
    let low = low_behind c.args.after.now c.requires.within c.in-Some.next.place c.behind.result.now c.behind.ensures k d l in
    omega (arith, low, size, c.loop-next.invariant.size, c.requires.size)

pub release-requires-clause-enough : goal.release-requires-clause-enough
release-requires-clause-enough c = λ p.
    let P : List ℕ → Type 0 = λ ts. count_in p ts ≤ slice_index c.loop-next.waits.items p in
    let Q : List ℕ → Type 0 = λ us. count_in p c.behind.result.now ≤ slice_index us p in
    subst Q (sym c.deref_mut.ensures.value)
    (subst P (sym c.behind.ensures) (enough_waits c.args.scores.now c.args.after.now c.loop-next.order.items c.loop-next.waits.items c.loop-next.ready c.in-Some.next c.requires.within c.requires.size c.loop-next.invariant c.in-Some.ensures.member p))

pub loop-next-smaller : goal.loop-next-smaller
loop-next-smaller c =
    let P : List ℕ → Type 0 = λ xs. length (left_of (length c.args.scores.now) xs) < length (left_of (length c.args.scores.now) c.loop-next.order.items) in
    subst P (sym c.in_ok-push.ensures.items) (left_shorter (length c.args.scores.now) c.loop-next.order.items c.in-Some.next.place ((c.loop-next.invariant.due c.in-Some.next).0 c.in-Some.ensures.member).0)

pub loop-next-preserved : goal.loop-next-preserved
loop-next-preserved c =
    let size : length c.release.new.waits ≡ length c.loop-next.waits.items = c.in_ok-release.ensures.size ∙ ap length c.deref_mut.ensures.value in
    let n : length c.loop-next.waits.items ≡ c.loop-next.waits.len = search rules in
    let w = with_same c.loop-next.waits.len c.release.new.waits c.loop-next.waits.items size n in
    let P : List ℕ → Type 0 = λ xs. State c.args.scores.now c.args.after.now xs (take c.loop-next.waits.len (c.release.new.waits ++ drop (length c.release.new.waits) c.loop-next.waits.items)) c.release.new.ready in
    let Q : List ℕ → Type 0 = λ us. State c.args.scores.now c.args.after.now (c.loop-next.order.items ++ c.in-Some.next.place ∷ []) us c.release.new.ready in
    let R : List ℕ → Type 0 = λ ts. Released c.args.scores.now ts c.release.new.waits c.pop_first.new.self c.release.new.ready in
    let U : List ℕ → Type 0 = λ us. (p : ℕ) → slice_index c.release.new.waits p + count_in p (behind c.args.after.now c.in-Some.next.place) ≡ slice_index us p in
    subst P (sym c.in_ok-push.ensures.items) (subst Q (sym w)
    (state_more c.args.scores.now c.args.after.now c.loop-next.order.items c.loop-next.waits.items c.release.new.waits c.loop-next.ready c.pop_first.new.self c.release.new.ready c.in-Some.next
    c.loop-next.invariant c.in-Some.ensures.member (λ t h. c.in-Some.ensures.least t h)
    (without_turn c.in-Some.next c.loop-next.ready c.pop_first.new.self c.in-Some.ensures.updates.0) (size ∙ c.loop-next.invariant.size)
    (subst U c.deref_mut.ensures.value (λ p. ap (λ ts. slice_index c.release.new.waits p + count_in p ts) (sym c.behind.ensures) ∙ c.in_ok-release.ensures.waits p))
    (subst R c.behind.ensures c.in_ok-release.ensures.ready)))

pub returns : goal.returns
returns c =
    let z = no_keys c.loop-next.ready.keys (λ l. let x = c.in_default.ensures.variant.1 l in absurd cc) in
    state_end c.args.scores.now c.args.after.now c.loop-next.order.items c.loop-next.waits.items c.loop-next.ready c.loop-next.invariant (none_has c.loop-next.ready z)
