use Rattle.std.proofs.Common.{◌≡◌, ℕ, ◌+◌, length, take}
use Rattle.std.specs.Prelude.{slice_index}
use Rattle.bk_places.specs.Counts.{count_in}
use Rattle.bk_mean.specs.Dues.{Released}
use Rattle.bk_mean.proofs.arrange.release.Given as goal

abbrev pub invariant-loop-place : goal.invariant-loop-place
invariant-loop-place l = record {
  size : length l.uses ≡ length l.initial.uses;
  counts : (y : ℕ) → slice_index l.uses y + count_in y (take l.place-index l.taken) ≡ slice_index l.initial.uses y;
  free : Released l.due (take l.place-index l.taken) l.uses l.initial.free l.free;
}
