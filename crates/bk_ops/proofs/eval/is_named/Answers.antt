use Rattle.std.proofs.Common.{ap, sym, ◌∙◌}
use Rattle.bk_ops.specs.Table.{Row, is_op, allows}
use Rattle.bk_ops.proofs.Ignored.{op_within}
use Rattle.bk_ops.proofs.eval.is_named.Goals as goal

pub returns-clause-within : goal.returns-clause-within
unfolding is_op
returns-clause-within c =
    λ h. op_within c.args.op.family c.args.op.a c.args.op.b
    (ap (λ (r : Row). allows r.widths c.args.op.a c.args.op.b) (sym c.row_of.ensures) ∙ (sym c.allow.ensures ∙ h))
