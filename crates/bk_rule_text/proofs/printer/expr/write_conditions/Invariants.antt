use Rattle.std.proofs.Common.{◌≡◌, ◌++◌, drop, string_bytes}
use Rattle.bk_rule_text.specs.Layout.{conditions_text}
use Rattle.bk_rule_text.proofs.printer.expr.write_conditions.Given as goal

abbrev pub invariant-loop-cond : goal.invariant-loop-cond
invariant-loop-cond l = string_bytes l.out ++ conditions_text (drop l.cond-index l.conds) ≡ string_bytes l.initial.out ++ conditions_text l.conds
