use Rattle.std.proofs.Common.{◌∙◌, ◌↔◌, sym, ap, subst}
use Rattle.std.specs.Bool.{IsTrue}
use Rattle.bk_func.specs.Records.{ValueRecord, SigRecord}
use Rattle.bk_func.specs.Form.Shapes.{GivesArgument}
use Rattle.bk_form.specs.Names.{measure}
use Rattle.bk_form.proofs.Families.{argument_type, result_type}
use Rattle.bk_form.proofs.Tables.{through}
use Rattle.bk_form.proofs.types.gives_by_type.Goals as goal

pub returns-in-Arg : goal.returns-in-Arg
returns-in-Arg c =
    let s = measure c.args.scope.now in
    let f = c.args.scope.now.func.now in
    let v = c.args.value.now in
    let is = sym (ap (λ v. v.op.family) c.value.view_is) ∙ c.in-Arg.is in
    through (subst (λ (g : SigRecord). IsTrue c.gives_argument.result ↔ GivesArgument s g.args v.aux v.ty) c.own.ensures
    (subst (λ (w : ValueRecord). IsTrue c.gives_argument.result ↔ GivesArgument s c.own.result.args.now w.aux w.ty) c.value.view_is c.gives_argument.ensures))
    (argument_type s f v v.op.family is)

pub returns-in-SelectN : goal.returns-in-SelectN
returns-in-SelectN c =
    let s = measure c.args.scope.now in
    let f = c.args.scope.now.func.now in
    let v = c.args.value.now in
    through c.gives_result_of.ensures (result_type s f v v.op.family (sym (ap (λ v. v.op.family) c.value.view_is) ∙ c.in-SelectN.is))
