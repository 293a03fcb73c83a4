use Rattle.std.proofs.Common.{◌≡◌, drop}
use Rattle.std.specs.List.{list_all}
use Rattle.bk_rule_text.specs.Stands.{build_stands}
use Rattle.bk_rule_text.proofs.stands.node.+build.Given as goal

abbrev pub invariant-builds_stand-loop-build : goal.invariant-builds_stand-loop-build
invariant-builds_stand-loop-build l = list_all build_stands (drop l.build-index l.builds) ≡ list_all build_stands l.builds
