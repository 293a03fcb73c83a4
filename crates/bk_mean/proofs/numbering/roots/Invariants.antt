use Rattle.std.proofs.Common.{◌<◌, ◌-◌}
use Rattle.bk_mean.specs.Numbering.{AreRoots}
use Rattle.bk_mean.proofs.numbering.roots.Given as goal

abbrev pub invariant-loop-reach : goal.invariant-loop-reach
invariant-loop-reach l = record {
  some : 0 < l.reach;
  roots : AreRoots l.func l.reach l.roots.items;
}

abbrev pub decreases-loop-reach : goal.decreases-loop-reach
decreases-loop-reach l = l.count - l.reach
