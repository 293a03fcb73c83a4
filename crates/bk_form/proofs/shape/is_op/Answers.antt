use Rattle.std.proofs.Common.{◌∙◌, sym, ap}
use Rattle.std.specs.Option.{is_some}
use Rattle.bk_form.proofs.Ops.{op_by_count, op_by_result}
use Rattle.bk_form.proofs.shape.is_op.Goals as goal

pub returns-in-Void : goal.returns-in-Void
returns-in-Void c =
    let e = c.op_info-info.ensures in
    c.is_some.ensures ∙ (ap (λ i. is_some i.arity) e ∙ op_by_count c.args.op (sym (ap (λ i. i.result) e) ∙ c.in-Void.is))

pub returns-in_default : goal.returns-in_default
returns-in_default c = op_by_result c.args.op (λ h. c.in_default.not-Void (ap (λ i. i.result) c.op_info-info.ensures ∙ h))
