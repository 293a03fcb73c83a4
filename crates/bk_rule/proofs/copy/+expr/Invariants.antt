use Rattle.std.proofs.Common.{◌≡◌, take}
use Rattle.bk_rule.proofs.copy.+expr.Given as goal

abbrev pub invariant-copy_exprs-loop-expr : goal.invariant-copy_exprs-loop-expr
invariant-copy_exprs-loop-expr l = l.copy.items ≡ take l.expr-index l.exprs
