use Rattle.std.proofs.Common.{◌≡◌, ◌<◌, ◌-◌, ◌+◌, ◌∙◌, sym, ap, arith, true, length, get_or, take, Some, None, length-set}
use Rattle.std.specs.Prelude.{slice_index, ◌↔◌, ◌⊎◌}
use Rattle.bk_mean.specs.Arranged as meant
use Rattle.bk_mean.specs.Dues.{due_in, has_due, Released}
use Rattle.bk_places.proofs.Counting.{Ended, wait_left, ended_one, waits_more, last_wait}
use Rattle.bk_places.proofs.Positions.{got_get_or}
use Rattle.bk_mean.proofs.Releasing.{released_more, adds_none, adds_one, not_due}
use Rattle.bk_mean.proofs.arrange.release.Goals as goal
use Rattle.bk_mean.proofs.arrange.release.Goals.{then-take_use+in-Some+in_ok-insert, then-take_use+in_default, else-take_use}

pub take_use-requires-clause-some : goal.take_use-requires-clause-some
take_use-requires-clause-some c = wait_left c.args.taken.now c.loop-place.uses c.args.uses.now c.loop-place.place-index (omega arith) c.loop-place.invariant.counts c.requires.enough

pub loop-place-preserved : goal.loop-place-preserved
loop-place-preserved c =
    let i = c.loop-place.place-index in
    let t = get_or c.args.taken.now c.loop-place.place-index 0 in
    let h : c.loop-place.place-index < length c.args.taken.now = omega arith in
    let some = wait_left c.args.taken.now c.loop-place.uses c.args.uses.now c.loop-place.place-index h c.loop-place.invariant.counts c.requires.enough in
    let low : get_or c.args.taken.now c.loop-place.place-index 0 < length c.loop-place.uses = (let a = c.requires.within c.loop-place.place-index 0 h in let b = c.loop-place.invariant.size in omega (arith, a, b)) in
    let due : get_or c.args.taken.now c.loop-place.place-index 0 < length c.args.due.now = (let b = c.loop-place.invariant.size in let d = c.requires.size in omega (arith, low, b, d)) in
    let used : Ended t c.loop-place.uses c.take_use.new.uses = ended_one t c.loop-place.uses c.take_use.new.uses low some c.take_use.ensures.uses in
    let P : meant.Due → Type 0 = λ d. (d.place ≡ t) × (due_in c.args.due.now d.place ≡ Some d) × (slice_index c.take_use.new.uses d.place ≡ 0) in
    let more : ((d : meant.Due) → (has_due c.if-take_use.free d ≡ true) ↔ ((has_due c.loop-place.free d ≡ true) ⊎ P d)) → Released c.args.due.now (take (c.loop-place.place-index + 1) c.args.taken.now) c.take_use.new.uses c.args.free.now c.if-take_use.free =
    λ q. released_more c.args.due.now c.args.taken.now c.loop-place.uses c.take_use.new.uses c.args.free.now c.loop-place.free c.if-take_use.free c.loop-place.place-index h used c.loop-place.invariant.free q
    in
    record {
      size = ap length c.take_use.ensures.uses ∙ length-set c.loop-place.uses t (slice_index c.loop-place.uses t - 1) ∙ c.loop-place.invariant.size;
      counts = waits_more c.args.taken.now c.loop-place.uses c.take_use.new.uses c.args.uses.now c.loop-place.place-index h used c.loop-place.invariant.counts;
      free = more (elim c.if-take_use.branch [
        | then-take_use+in-Some+in_ok-insert w ↦ rw w.free-is
            (adds_one c.args.due.now c.take_use.new.uses t w.in-Some.due c.loop-place.free w.insert.new.self c.requires.places
            (got_get_or c.args.due.now t None due ∙ ap Some w.in-Some.is) ((last_wait t c.loop-place.uses c.take_use.new.uses used).0 (c.take_use.ensures.last.0 w.if-take_use.true)) w.in_ok-insert.ensures.updates.0)
        | then-take_use+in_default w ↦ rw w.free-is (adds_none c.loop-place.free P (λ d q. not_due c.args.due.now t due w.in_default.not-Some d (ap (due_in c.args.due.now) (sym q.0) ∙ q.1)))
        | else-take_use w ↦ rw w.free-is (adds_none c.loop-place.free P (λ d q.
            let r = c.take_use.ensures.last.1 ((last_wait t c.loop-place.uses c.take_use.new.uses used).1 (ap (slice_index c.take_use.new.uses) (sym q.0) ∙ q.2)) in
            absurd cc))
      ]);
    }
