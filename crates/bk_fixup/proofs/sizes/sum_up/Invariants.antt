use Rattle.std.proofs.Common.{◌≡◌, ℕ, ◌+◌, ◌*◌, ◌≤◌, length}
use Rattle.std.specs.Prelude.{slice_index}
use Rattle.bk_fixup.specs.Rounds.{gain_before}
use Rattle.bk_fixup.proofs.sizes.sum_up.Given as goal

abbrev pub invariant-loop-place : goal.invariant-loop-place
invariant-loop-place l = record {
  long : length l.gains ≡ length l.sizes + 1;
  gain : l.gain ≡ gain_before l.sizes l.place;
  few : l.gain ≤ 2 * l.place;
  each : (e : ℕ) → e ≤ l.place → slice_index l.gains e ≡ gain_before l.sizes e;
}
