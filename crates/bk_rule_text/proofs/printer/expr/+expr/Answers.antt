use Rattle.std.proofs.Common.{◌++◌, map, string_bytes, arith}
use Rattle.bk_rule.proofs.Opened.{opened}
use Rattle.bk_rule_text.specs.Layout.{call_text, function_text, expr_text, inner_text}
use Rattle.bk_rule_text.proofs.Told.{told, no_operator, operator_between, call_is}
use Rattle.bk_rule_text.proofs.printer.expr.+expr.Goals as goal

pub write_call-returns-then-not-is_infix : goal.write_call-returns-then-not-is_infix
write_call-returns-then-not-is_infix t c =
    told c.write_function.result (string_bytes c.write_function.new.out) (string_bytes c.args.out.now ++ function_text c.args.fun (map inner_text c.args.args.now)) (string_bytes c.args.out.now ++ call_text c.args.fun (map inner_text c.args.args.now))
    (no_operator c.args.fun c.args.args.now (string_bytes c.args.out.now) c.is_infix.result (omega arith) (omega arith) c.if-not-is_infix.true c.is_infix.ensures)
    c.write_function.ensures

pub write_call-returns-in_ok-write_spaced-in-len2 : goal.write_call-returns-in_ok-write_spaced-in-len2
write_call-returns-in_ok-write_spaced-in-len2 t c =
    told c.write_inner-in-len2.result (string_bytes c.write_inner-in-len2.new.out) (string_bytes c.write_spaced.new.out ++ inner_text c.y-item.result) (string_bytes c.args.out.now ++ call_text c.args.fun (map inner_text c.args.args.now))
    (
    operator_between c.args.fun c.args.args.now c.x-item-then-args-lt3.result c.y-item.result (string_bytes c.args.out.now) (string_bytes c.write_inner.new.out) (string_bytes c.write_spaced.new.out) c.symbol.result.now c.is_infix.result
    (omega arith) (omega arith) c.x-item-then-args-lt3.is c.y-item.is c.if-not-is_infix.false c.is_infix.ensures
    c.in_ok-write_inner-in-len2.ensures c.symbol.ensures c.in_ok-write_spaced-in-len2.ensures
    )
    c.write_inner-in-len2.ensures

pub write_expr-returns-in-Call : goal.write_expr-returns-in-Call
unfolding opened
write_expr-returns-in-Call t c =
    told c.write_call.result (string_bytes c.write_call.new.out) (string_bytes c.args.out.now ++ call_text c.in-Call.fun (map inner_text c.as_slice.result.now)) (string_bytes c.args.out.now ++ expr_text c.args.expr.now)
    (call_is c.in-Call.fun c.in-Call.args c.as_slice.result.now c.args.expr.now (string_bytes c.args.out.now) c.as_slice.ensures c.in-Call.is)
    c.write_call.ensures
