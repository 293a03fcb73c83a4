use Rattle.std.proofs.Common.{refl}
use Rattle.bk_func.specs.declared.form.FormKind.TheVariants.{Missing, Arity}
use Rattle.bk_func.specs.Form.{Keeps}
use Rattle.bk_form.specs.Names.{measure}
use Rattle.bk_form.proofs.Judging.{kept_here, kept_more, refused, on_result}
use Rattle.bk_form.proofs.check_numbers.Goals as goal

pub returns : goal.returns
returns c =
    let s = measure c.args.scope.now in
    let f = c.args.scope.now.func.now in
    let unnamed = c.first_fault-unnamed in
    let uncounted = c.first_fault-uncounted in
    let named : Keeps s f Missing = kept_here s f Missing unnamed.result unnamed.ensures c.in_ok-refuse.ensures in
    let two = kept_more s f Missing 2 refl c.requires.kept named in
    on_result c.refuse-2.result
    (λ x e. kept_more s f Arity 3 refl two (kept_here s f Arity uncounted.result uncounted.ensures e))
    (λ e h. refused s f Arity uncounted.result e two uncounted.ensures h)
    c.refuse-2.ensures
