use Rattle.std.proofs.Common.{◌≡◌, ◌∙◌, sym, ap, subst, true}
use Rattle.bk_ops.specs.Table.{info_of, is_op}
use Rattle.bk_ops.specs.declared.table.Class.{Class}
use Rattle.bk_func.specs.Form.Shapes.{Gives}
use Rattle.bk_form.specs.Names.{measure}
use Rattle.bk_form.proofs.types.gives_as_row.Goals as goal

pub returns-then-is_op : goal.returns-then-is_op
returns-then-is_op c =
    let s = measure c.args.scope.now in
    let f = c.args.scope.now.func.now in
    let v = c.args.value.now in
    let class = ap (λ i. i.result) (c.op_info.ensures ∙ ap (λ v. info_of v.op) c.value.view_is) in
    let op : is_op v.op.family v.op.a v.op.b ≡ true = sym (c.is_op.ensures ∙ ap (λ v. is_op v.op.family v.op.a v.op.b) c.value.view_is) ∙ c.if-is_op.true in (
      (λ t. (op, subst (λ (x : Class). Gives s f v x) class (c.gives.ensures.0 t))),
      (λ (is, gives). c.gives.ensures.1 (subst (λ (x : Class). Gives s f v x) (sym class) gives)),
    )
