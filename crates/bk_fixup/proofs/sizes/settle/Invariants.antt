use Rattle.std.proofs.Common.{◌≡◌, ◌+◌, ◌-◌, ◌*◌, length}
use Rattle.std.specs.List.{sum}
use Rattle.bk_fixup.specs.Rounds.{AreBelow}
use Rattle.bk_fixup.proofs.sizes.settle.Given as goal

abbrev pub invariant-loop : goal.invariant-loop
invariant-loop l = record {
  room : length l.gains ≡ length l.sizes + 1;
  below : AreBelow l.branches l.sizes;
}

abbrev pub decreases-loop : goal.decreases-loop
decreases-loop l = 3 * length l.branches - sum l.sizes
