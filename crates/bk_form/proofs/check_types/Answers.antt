use Rattle.std.proofs.Common.{refl}
use Rattle.bk_func.specs.declared.form.FormKind.TheVariants.{Ty, Width}
use Rattle.bk_form.specs.Names.{measure}
use Rattle.bk_form.proofs.Judging.{kept_here, kept_more, refused, on_result}
use Rattle.bk_form.proofs.check_types.Goals as goal

pub returns : goal.returns
returns c =
    let s = measure c.args.flow.now.scope in
    let f = c.args.flow.now.scope.func.now in
    let untyped = c.in_ok-untyped in
    let unranged = c.in_ok-unranged in
    let four = kept_more s f Ty 4 refl c.requires.kept (kept_here s f Ty untyped.untyped untyped.ensures c.in_ok-refuse.ensures) in
    on_result c.refuse-2.result
    (λ x e. kept_more s f Width 5 refl four (kept_here s f Width unranged.unranged unranged.ensures e))
    (λ e h. refused s f Width unranged.unranged e four unranged.ensures h)
    c.refuse-2.ensures
