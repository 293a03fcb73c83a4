use Rattle.std.proofs.Common.{◌≡◌, ◌<◌, ◌-◌, ◌+◌, ◌∙◌, sym, ap, refl, arith, true, length, get_or, take, length-set}
use Rattle.std.specs.Prelude.{slice_index, ◌↔◌, ◌⊎◌}
use Rattle.bk_sched.specs.declared.turns.Turn.{Turn}
use Rattle.bk_sched.specs.Turns.{IsDue, has_turn, Released}
use Rattle.bk_places.proofs.Counting.{Ended, wait_left, ended_one, waits_more, last_wait}
use Rattle.bk_sched.proofs.Turning.{released_more, adds_none, adds_one}
use Rattle.bk_sched.proofs.turns.release.Goals as goal
use Rattle.bk_sched.proofs.turns.release.Goals.{then-end_wait+in_ok-insert, else-end_wait}

pub end_wait-requires-clause-some : goal.end_wait-requires-clause-some
end_wait-requires-clause-some c = wait_left c.args.places.now c.loop-place.waits c.args.waits.now c.loop-place.place-index (omega arith) c.loop-place.invariant.counts c.requires.enough

pub loop-place-preserved : goal.loop-place-preserved
loop-place-preserved c =
    let i = c.loop-place.place-index in
    let t = get_or c.args.places.now c.loop-place.place-index 0 in
    let h : c.loop-place.place-index < length c.args.places.now = omega arith in
    let some = wait_left c.args.places.now c.loop-place.waits c.args.waits.now c.loop-place.place-index h c.loop-place.invariant.counts c.requires.enough in
    let low : get_or c.args.places.now c.loop-place.place-index 0 < length c.loop-place.waits = (let a = c.requires.within c.loop-place.place-index 0 h in let b = c.loop-place.invariant.size in omega (arith, a, b)) in
    let ended : Ended t c.loop-place.waits c.end_wait.new.waits = ended_one t c.loop-place.waits c.end_wait.new.waits low some c.end_wait.ensures.waits in
    let P : Turn → Type 0 = λ d. (d.place ≡ t) × IsDue c.args.scores.now c.end_wait.new.waits d in
    let more : ((d : Turn) → (has_turn c.if-end_wait.ready d ≡ true) ↔ ((has_turn c.loop-place.ready d ≡ true) ⊎ P d)) → Released c.args.scores.now (take (c.loop-place.place-index + 1) c.args.places.now) c.end_wait.new.waits c.args.ready.now c.if-end_wait.ready =
    λ q. released_more c.args.scores.now c.args.places.now c.loop-place.waits c.end_wait.new.waits c.args.ready.now c.loop-place.ready c.if-end_wait.ready c.loop-place.place-index h ended c.loop-place.invariant.ready q
    in
    record {
      size = ap length c.end_wait.ensures.waits ∙ length-set c.loop-place.waits t (slice_index c.loop-place.waits t - 1) ∙ c.loop-place.invariant.size;
      counts = waits_more c.args.places.now c.loop-place.waits c.end_wait.new.waits c.args.waits.now c.loop-place.place-index h ended c.loop-place.invariant.counts;
      ready = more (elim c.if-end_wait.branch [
        | then-end_wait+in_ok-insert w ↦ rw w.ready-is
            (adds_one c.args.scores.now c.end_wait.new.waits t _ c.loop-place.ready w.insert.new.self refl refl ((last_wait t c.loop-place.waits c.end_wait.new.waits ended).0 (c.end_wait.ensures.last.0 w.if-end_wait.true)) w.in_ok-insert.ensures.updates.0)
        | else-end_wait w ↦ rw w.ready-is (adds_none c.loop-place.ready P (λ d q.
            let r = c.end_wait.ensures.last.1 ((last_wait t c.loop-place.waits c.end_wait.new.waits ended).1 (ap (slice_index c.end_wait.new.waits) (sym q.0) ∙ q.1.1)) in
            absurd cc))
      ]);
    }
