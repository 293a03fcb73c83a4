use Rattle.std.proofs.Common.{◌≡◌, ℕ, ◌<◌, Some, length}
use Rattle.std.specs.Prelude.{slice_get}
use Rattle.bk_func.specs.Records.{ValueRecord}
use Rattle.bk_mean.specs.Dues.{due_in}
use Rattle.bk_mean.specs.Memories.{place_due}
use Rattle.bk_mean.proofs.states.due.Given as goal

abbrev pub invariant-loop-place : goal.invariant-loop-place
invariant-loop-place l = record {
  length : length l.due.items ≡ l.place;
  each : (k : ℕ) (v : ValueRecord) → k < l.place → slice_get l.values k ≡ Some v → due_in l.due.items k ≡ place_due l.numbering l.first l.values k v;
}
