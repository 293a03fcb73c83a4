use Rattle.std.proofs.Common.{◌∙◌, ◌+◌, ◌-◌, sym, ap, length, arith, List, ℕ, Bor}
use Rattle.bk_rule.specs.declared.trees.Expr.{Expr}
use Rattle.bk_rule_text.specs.Exprs.{operator_at, operand_at, tighter_at, chain, operand_in}
use Rattle.bk_rule_text.proofs.Loops.{chain_stops, chain_fails, chain_goes_on, chain_ends}
use Rattle.bk_rule_text.proofs.Reading.{read_as, erred, operand_is}
use Rattle.bk_rule_text.proofs.read.expr.+expr.Goals as goal

pub chain_on-returns-in_default : goal.chain_on-returns-in_default
chain_on-returns-in_default t c =
    let operand = tighter_at (operand_at c.args.scope.now c.args.levels.left) c.args.level in
    chain_stops (operator_at c.args.level) operand (length c.args.text.now - c.loop-turn.turn) c.loop-turn.whole c.loop-turn.rest.now _ c.loop-turn.invariant (sym c.in_default.ensures)

pub chain_on-returns-in_err-right : goal.chain_on-returns-in_err-right
chain_on-returns-in_err-right t c =
    let operand = tighter_at (operand_at c.args.scope.now c.args.levels.left) c.args.level in
    erred {W = Expr × Bor (List ℕ)} (λ x. (x.0, x.1.now)) (λ x. (x.0, x.1.now)) c.from_residual.result c.in_err-right.field-0.0 (operand c.in-Some.next.now) _ c.from_residual.ensures.1 c.in_err-right.ensures
    (λ n. chain_fails (operator_at c.args.level) operand (length c.args.text.now) c.loop-turn.turn c.loop-turn.whole c.loop-turn.rest.now c.in-Some.fun c.in-Some.next.now _ c.loop-turn.invariant (omega arith) (sym c.in-Some.ensures) n)

pub chain_on-loop-turn-preserved : goal.chain_on-loop-turn-preserved
chain_on-loop-turn-preserved t c =
    let operand = tighter_at (operand_at c.args.scope.now c.args.levels.left) c.args.level in
    ap (λ w. chain (operator_at c.args.level) operand (length c.args.text.now - (c.loop-turn.turn + 1)) w c.in_ok-right.next.now) c.in_ok-whole.ensures
    ∙ chain_goes_on (operator_at c.args.level) operand (length c.args.text.now) c.loop-turn.turn c.loop-turn.whole c.loop-turn.rest.now c.in-Some.fun c.in-Some.next.now c.in_ok-right.right c.in_ok-right.next.now _ c.loop-turn.invariant (omega arith) (sym c.in-Some.ensures) c.in_ok-right.ensures

pub chain_on-returns : goal.chain_on-returns
chain_on-returns t c =
    let operand = tighter_at (operand_at c.args.scope.now c.args.levels.left) c.args.level in
    chain_ends (operator_at c.args.level) operand (length c.args.text.now) c.loop-turn.turn c.loop-turn.whole c.loop-turn.rest.now _ c.loop-turn.invariant (omega arith)

pub operand-returns : goal.operand-returns
operand-returns t c =
    let s = c.args.scope.now in
    let m = c.in_ok-inner.inner.left in
    read_as (λ x. (x.0, x.1.now)) c.operand_in.result (operand_in s (operand_at s m) c.skip_blanks.result.now) (operand_at s c.args.levels.left c.args.text.now)
    (operand_is s c.args.levels.left m c.args.text.now c.skip_blanks.result.now c.in_ok-inner.ensures.ok c.skip_blanks.ensures)
    c.operand_in.ensures
