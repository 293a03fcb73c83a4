use Rattle.std.proofs.Common.{◌∙◌, sym, ap}
use Rattle.bk_ops.specs.Table.{info_of}
use Rattle.bk_form.specs.Names.{measure}
use Rattle.bk_form.proofs.Families.{int_range}
use Rattle.bk_form.proofs.Tables.{through}
use Rattle.bk_form.proofs.width.fits.Goals as goal

pub is_in_range-requires-clause-op : goal.is_in_range-requires-clause-op
is_in_range-requires-clause-op c = sym (ap (λ i. i.aux) (c.op_info.ensures ∙ ap (λ v. info_of v.op) c.value.view_is)) ∙ c.in-Int.is

pub returns-in-Int : goal.returns-in-Int
returns-in-Int c =
    let s = measure c.args.scope.now in
    let f = c.args.scope.now.func.now in
    let v = c.args.value.now in
    through c.is_in_range.ensures
    (int_range s f v (info_of v.op).aux (sym (ap (λ i. i.aux) (c.op_info.ensures ∙ ap (λ v. info_of v.op) c.value.view_is)) ∙ c.in-Int.is))
