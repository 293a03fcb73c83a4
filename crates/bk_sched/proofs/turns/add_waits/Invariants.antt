use Rattle.std.proofs.Common.{◌≡◌, ℕ, ◌+◌, length, take}
use Rattle.std.specs.Prelude.{slice_index}
use Rattle.bk_places.specs.Counts.{count_in}
use Rattle.bk_sched.proofs.turns.add_waits.Given as goal

abbrev pub invariant-loop-place : goal.invariant-loop-place
invariant-loop-place l = record {
  size : length l.waits ≡ length l.initial.waits;
  counts : (p : ℕ) → slice_index l.waits p ≡ slice_index l.initial.waits p + count_in p (take l.place-index l.places);
}
