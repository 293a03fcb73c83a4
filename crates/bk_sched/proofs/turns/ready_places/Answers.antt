use Rattle.std.proofs.Common.{◌≡◌, ◌∙◌, sym, ap, refl}
use Rattle.std.specs.Prelude.{slice_index}
use Rattle.bk_sched.specs.declared.turns.Turn.{Turn}
use Rattle.bk_sched.specs.Turns.{IsDue}
use Rattle.bk_sched.proofs.Turning.{ready_one, adds_none, adds_one}
use Rattle.bk_sched.proofs.turns.ready_places.Goals as goal
use Rattle.bk_sched.proofs.turns.ready_places.Goals.{then-waits-place-eq0+in_ok-insert, else-waits-place-eq0}

pub loop-place-preserved : goal.loop-place-preserved
loop-place-preserved c =
    let P : Turn → Type 0 = λ t. (t.place ≡ c.loop-place.place) × IsDue c.args.scores.now c.args.waits.now t in
    ready_one c.args.scores.now c.args.waits.now c.loop-place.place c.loop-place.ready c.if-waits-place-eq0.ready c.loop-place.invariant
    (elim c.if-waits-place-eq0.branch [
      | then-waits-place-eq0+in_ok-insert w ↦ rw w.ready-is
          (adds_one c.args.scores.now c.args.waits.now c.loop-place.place _ c.loop-place.ready w.insert.new.self refl refl w.if-waits-place-eq0.true w.in_ok-insert.ensures.updates.0)
      | else-waits-place-eq0 w ↦ rw w.ready-is (adds_none c.loop-place.ready P (λ t q. w.if-waits-place-eq0.false (ap (slice_index c.args.waits.now) (sym q.0) ∙ q.1.1)))
    ])
