use Rattle.std.proofs.Common.{◌≡◌, ◌++◌, drop, string_bytes}
use Rattle.bk_rule_text.specs.Layout.{builds_text}
use Rattle.bk_rule_text.proofs.printer.tree.+build.Given as goal

abbrev pub invariant-write_builds-loop-build : goal.invariant-write_builds-loop-build
invariant-write_builds-loop-build l = string_bytes l.out ++ builds_text (drop l.build-index l.builds) ≡ string_bytes l.initial.out ++ builds_text l.builds
