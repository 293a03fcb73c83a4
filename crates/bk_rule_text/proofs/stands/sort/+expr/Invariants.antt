use Rattle.std.proofs.Common.{◌≡◌, ◌++◌, drop}
use Rattle.bk_rule_text.specs.Stands.{exprs_sorts}
use Rattle.bk_rule_text.proofs.stands.sort.+expr.Given as goal

abbrev pub invariant-note_exprs-loop-expr : goal.invariant-note_exprs-loop-expr
invariant-note_exprs-loop-expr l = l.said.items ++ exprs_sorts (drop l.expr-index l.exprs) l.sort ≡ l.initial.said.items ++ exprs_sorts l.exprs l.sort
