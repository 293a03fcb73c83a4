use Rattle.std.proofs.Common.{◌≡◌, take}
use Rattle.bk_rule.proofs.copy.+build.Given as goal

abbrev pub invariant-copy_builds-loop-build : goal.invariant-copy_builds-loop-build
invariant-copy_builds-loop-build l = l.copy.items ≡ take l.build-index l.builds
