use Rattle.std.proofs.Common.{◌∙◌, arith}
use Rattle.bk_rule.proofs.Opened.{opened}
use Rattle.bk_rule_text.proofs.Told.{prefix_is, infix_is, function_is}
use Rattle.bk_rule_text.proofs.printer.expr.is_operation.Goals as goal

pub returns-in-1 : goal.returns-in-1
unfolding opened
returns-in-1 c = c.is_prefix.ensures ∙ prefix_is c.in-Call.fun c.in-Call.args c.args.expr.now c.len.result c.len.ensures c.in-Call.is c.in-1.is

pub returns-in-2 : goal.returns-in-2
unfolding opened
returns-in-2 c = c.is_infix.ensures ∙ infix_is c.in-Call.fun c.in-Call.args c.args.expr.now c.len.result c.len.ensures c.in-Call.is c.in-2.is

pub returns-in_default : goal.returns-in_default
unfolding opened
returns-in_default c = function_is c.in-Call.fun c.in-Call.args c.args.expr.now c.len.result c.len.ensures c.in-Call.is (λ q. omega arith) (λ q. omega arith)
