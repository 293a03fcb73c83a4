use Rattle.std.proofs.Common.{◌≡◌, ◌<◌, ◌∙◌, sym, ap, arith, length, Some, None}
use Rattle.std.specs.Prelude.{slice_index}
use Rattle.bk_mean.specs.Arranged as meant
use Rattle.bk_mean.specs.Dues.{due_in}
use Rattle.bk_places.proofs.Positions.{got_get_or}
use Rattle.bk_mean.proofs.Releasing.{free_one, adds_none, adds_one, not_due}
use Rattle.bk_mean.proofs.arrange.free_values.Goals as goal
use Rattle.bk_mean.proofs.arrange.free_values.Goals.{in-Some+then-uses-place-eq0+in_ok-insert, in-Some+else-uses-place-eq0, in_default}

pub loop-place-preserved : goal.loop-place-preserved
loop-place-preserved c =
    let h : c.loop-place.place < length c.args.due.now = omega arith in
    let P : meant.Due → Type 0 = λ d. (d.place ≡ c.loop-place.place) × (due_in c.args.due.now d.place ≡ Some d) × (slice_index c.args.uses.now d.place ≡ 0) in
    free_one c.args.due.now c.args.uses.now c.loop-place.place c.loop-place.free c.match-due.free c.loop-place.invariant
    (elim c.match-due.branch [
      | in-Some+then-uses-place-eq0+in_ok-insert w ↦ rw w.free-is
          (adds_one c.args.due.now c.args.uses.now c.loop-place.place w.in-Some.due c.loop-place.free w.insert.new.self c.requires.places
          (got_get_or c.args.due.now c.loop-place.place None h ∙ ap Some w.in-Some.is) w.if-uses-place-eq0.true w.in_ok-insert.ensures.updates.0)
      | in-Some+else-uses-place-eq0 w ↦ rw w.free-is (adds_none c.loop-place.free P (λ d q. w.if-uses-place-eq0.false (ap (slice_index c.args.uses.now) (sym q.0) ∙ q.2)))
      | in_default w ↦ rw w.free-is (adds_none c.loop-place.free P (λ d q. not_due c.args.due.now c.loop-place.place h w.in_default.not-Some d (ap (due_in c.args.due.now) (sym q.0) ∙ q.1)))
    ])
