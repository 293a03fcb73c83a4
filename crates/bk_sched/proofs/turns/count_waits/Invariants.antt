use Rattle.std.proofs.Common.{◌≡◌, ℕ, length, take}
use Rattle.std.specs.Prelude.{slice_index}
use Rattle.bk_places.specs.Counts.{total_in}
use Rattle.bk_sched.proofs.turns.count_waits.Given as goal

abbrev pub invariant-loop-place : goal.invariant-loop-place
invariant-loop-place l = record {
  size : length l.waits.items ≡ length l.after;
  counts : (p : ℕ) → slice_index l.waits.items p ≡ total_in (take l.place l.after) p;
}
