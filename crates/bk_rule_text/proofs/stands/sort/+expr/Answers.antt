use Rattle.std.proofs.Common.{◌∙◌, ◌++◌, ap, sym}
use Rattle.bk_rule.proofs.Opened.{opened}
use Rattle.bk_rule_text.specs.Stands.{expr_sorts, exprs_sorts}
use Rattle.bk_rule_text.proofs.Standing.{noted, sorts_of_call}
use Rattle.bk_rule_text.proofs.stands.sort.+expr.Goals as goal

pub note_expr-returns-in-Call : goal.note_expr-returns-in-Call
unfolding opened
note_expr-returns-in-Call t c =
    let n = c.in-Call in
    let a = c.args.said.now.items in
    noted c.note_exprs.result c.note_exprs.new.said.items (a ++ exprs_sorts c.as_slice.result.now c.sort_of_operand.result) (a ++ expr_sorts c.args.expr.now c.args.sort)
    (
    ap (λ xs. a ++ exprs_sorts xs c.sort_of_operand.result) c.as_slice.ensures
    ∙ ap (λ s. a ++ exprs_sorts n.args s) c.sort_of_operand.ensures
    ∙ ap (λ xs. a ++ xs) (sym (ap (λ x. expr_sorts x c.args.sort) n.is ∙ sorts_of_call n.fun n.args c.args.sort))
    )
    c.note_exprs.ensures
