use Rattle.std.proofs.Common.{arith, sym, ap, ◌∙◌, if◌then◌else◌}
use Rattle.bk_rule.proofs.Opened.{opened}
use Rattle.bk_rule.specs.Bindings.{bound_env}
use Rattle.bk_rule.specs.Expressions.{at_variable, of_variable, on_one, on_two, unary, binary, variable_of, expr_value}
use Rattle.bk_rule.proofs.Equations.{of_one, of_two, of_others}
use Rattle.bk_rule.proofs.values.+aux_value.Goals as goal

pub returns-then-asks : goal.returns-then-asks
unfolding opened
returns-then-asks t c =
    let e = bound_env c.args.func.now c.args.binds.now in
    let f = c.in-Call.fun in
    let x = c.x-item.result in
    c.about.ensures ∙
    (ap (λ b. if b then at_variable (variable_of x) (of_variable c.args.target e f) else on_one (expr_value c.args.target e x) (unary f)) (sym c.if-asks.true ∙ c.asks.ensures) ∙
    sym (of_one c.args.target e f c.args.expr.now c.in-Call.args c.as_slice.result.now x c.in-Call.is c.as_slice.ensures (omega arith) (omega arith) c.x-item.is))

pub returns-else-asks : goal.returns-else-asks
unfolding opened
returns-else-asks t c =
    let e = bound_env c.args.func.now c.args.binds.now in
    let f = c.in-Call.fun in
    let x = c.x-item.result in
    c.on_one.ensures ∙
    (ap (λ v. on_one v (unary f)) c.aux_value.ensures ∙
    (ap (λ b. if b then at_variable (variable_of x) (of_variable c.args.target e f) else on_one (expr_value c.args.target e x) (unary f)) (sym c.if-asks.false ∙ c.asks.ensures) ∙
    sym (of_one c.args.target e f c.args.expr.now c.in-Call.args c.as_slice.result.now x c.in-Call.is c.as_slice.ensures (omega arith) (omega arith) c.x-item.is)))

pub returns-in-len2 : goal.returns-in-len2
unfolding opened
returns-in-len2 t c =
    let e = bound_env c.args.func.now c.args.binds.now in
    let f = c.in-Call.fun in
    let x = c.x-item-then-this-lt3.result in
    let y = c.y-item.result in
    c.on_two.ensures ∙
    (ap (λ v. on_two v c.aux_value-in-len2-2.result (binary f)) c.aux_value-in-len2.ensures ∙
    (ap (λ v. on_two (expr_value c.args.target e x) v (binary f)) c.aux_value-in-len2-2.ensures ∙
    sym (of_two c.args.target e f c.args.expr.now c.in-Call.args c.as_slice.result.now x y c.in-Call.is c.as_slice.ensures (omega arith) (omega arith) c.x-item-then-this-lt3.is c.y-item.is)))

pub returns-in_default : goal.returns-in_default
unfolding opened
returns-in_default t c =
    of_others c.args.target (bound_env c.args.func.now c.args.binds.now) c.in-Call.fun c.args.expr.now c.in-Call.args c.as_slice.result.now c.in-Call.is c.as_slice.ensures
    (λ q. omega arith) (λ q. omega arith)

pub returns-in_default-2 : goal.returns-in_default-2
unfolding opened
returns-in_default-2 t c =
    of_others c.args.target (bound_env c.args.func.now c.args.binds.now) c.in-Call.fun c.args.expr.now c.in-Call.args c.as_slice.result.now c.in-Call.is c.as_slice.ensures
    (λ q. omega arith) (λ q. omega arith)
