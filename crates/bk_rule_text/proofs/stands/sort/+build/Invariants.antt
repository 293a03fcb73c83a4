use Rattle.std.proofs.Common.{◌≡◌, ◌++◌, drop}
use Rattle.bk_rule_text.specs.Stands.{builds_sorts}
use Rattle.bk_rule_text.proofs.stands.sort.+build.Given as goal

abbrev pub invariant-note_builds-loop-build : goal.invariant-note_builds-loop-build
invariant-note_builds-loop-build l = l.said.items ++ builds_sorts (drop l.build-index l.builds) ≡ l.initial.said.items ++ builds_sorts l.builds
