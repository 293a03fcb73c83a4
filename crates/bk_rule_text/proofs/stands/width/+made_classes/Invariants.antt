use Rattle.std.proofs.Common.{◌≡◌, ◌++◌, drop}
use Rattle.bk_rule_text.specs.Widths.{builds_classes}
use Rattle.bk_rule_text.proofs.stands.width.+made_classes.Given as goal

abbrev pub invariant-note_builds-loop-place : goal.invariant-note_builds-loop-place
invariant-note_builds-loop-place l = l.said.items ++ builds_classes l.op l.place (drop l.place l.builds) ≡ l.initial.said.items ++ builds_classes l.op 0 l.builds
