use Rattle.std.proofs.Common.{◌≡◌, drop}
use Rattle.bk_rule_text.specs.Widths.{builds_fit}
use Rattle.bk_rule_text.proofs.stands.width.+build.Given as goal

abbrev pub invariant-builds_fit-loop-place : goal.invariant-builds_fit-loop-place
invariant-builds_fit-loop-place l = builds_fit l.op l.place (drop l.place l.builds) ≡ builds_fit l.op 0 l.builds
