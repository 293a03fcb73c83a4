use Rattle.std.proofs.Common.{◌≡◌, ℕ, ◌+◌, length, take}
use Rattle.std.specs.Prelude.{slice_index}
use Rattle.bk_places.specs.Counts.{count_in}
use Rattle.bk_sched.specs.Turns.{Released}
use Rattle.bk_sched.proofs.turns.release.Given as goal

abbrev pub invariant-loop-place : goal.invariant-loop-place
invariant-loop-place l = record {
  size : length l.waits ≡ length l.initial.waits;
  counts : (p : ℕ) → slice_index l.waits p + count_in p (take l.place-index l.places) ≡ slice_index l.initial.waits p;
  ready : Released l.scores (take l.place-index l.places) l.waits l.initial.ready l.ready;
}
