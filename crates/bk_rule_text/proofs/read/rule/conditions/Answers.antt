use Rattle.std.proofs.Common.{◌∙◌, ◌-◌, sym, ap, length, arith, Some, List, ℕ, Bor}
use Rattle.bk_rule.specs.declared.trees.Expr.{Expr}
use Rattle.bk_rule_text.specs.Exprs.{expr_at}
use Rattle.bk_rule_text.proofs.Loops.{conditions_stop, condition_fails, conditions_go_on, conditions_end}
use Rattle.bk_rule_text.proofs.Reading.{erred}
use Rattle.bk_rule_text.proofs.read.rule.conditions.Goals as goal

pub returns-in_default : goal.returns-in_default
returns-in_default c =
    conditions_stop (expr_at c.args.scope.now c.args.levels.left) (length c.args.text.now - c.loop-turn.turn) c.loop-turn.conds.items c.loop-turn.rest.now _ c.loop-turn.invariant (sym c.in_default.ensures)
    ∙ ap (λ xs. Some (xs, c.loop-turn.rest.now)) (sym c.from_vec.ensures)

pub returns-in_err-cond : goal.returns-in_err-cond
returns-in_err-cond c =
    let read = expr_at c.args.scope.now c.args.levels.left in
    erred {W = Expr × Bor (List ℕ)} (λ x. (x.0, x.1.now)) (λ x. (x.0, x.1.now)) c.from_residual.result c.in_err-cond.field-0.0 (read c.in-Some.inside.now) _ c.from_residual.ensures.1 c.in_err-cond.ensures
    (λ n. condition_fails read (length c.args.text.now) c.loop-turn.turn c.loop-turn.conds.items c.loop-turn.rest.now c.in-Some.inside.now _ c.loop-turn.invariant (omega arith) (sym c.in-Some.ensures) n)

pub loop-turn-preserved : goal.loop-turn-preserved
loop-turn-preserved c =
    conditions_go_on (expr_at c.args.scope.now c.args.levels.left) (length c.args.text.now) c.loop-turn.turn c.loop-turn.conds.items c.push.new.self.items c.loop-turn.rest.now c.in-Some.inside.now c.in_ok-cond.cond c.in_ok-cond.next.now _
    c.loop-turn.invariant (omega arith) (sym c.in-Some.ensures) c.in_ok-cond.ensures c.in_ok-push.ensures.items

pub returns : goal.returns
returns c =
    conditions_end (expr_at c.args.scope.now c.args.levels.left) (length c.args.text.now) c.loop-turn.turn c.loop-turn.conds.items c.loop-turn.rest.now _ c.loop-turn.invariant (omega arith)
    ∙ ap (λ xs. Some (xs, c.loop-turn.rest.now)) (sym c.from_vec-2.ensures)
