use Rattle.std.proofs.Common.{◌≡◌, ◌++◌, drop, map, string_bytes}
use Rattle.bk_rule_text.specs.Layout.{joined, inner_text}
use Rattle.bk_rule_text.proofs.printer.expr.+expr.Given as goal

abbrev pub invariant-write_joined-loop-place : goal.invariant-write_joined-loop-place
invariant-write_joined-loop-place l =
    string_bytes l.out ++ joined l.place (map inner_text (drop l.place l.args)) ≡ string_bytes l.initial.out ++ joined 0 (map inner_text l.args)
