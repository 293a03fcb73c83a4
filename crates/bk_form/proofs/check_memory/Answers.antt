use Rattle.std.proofs.Common.{refl}
use Rattle.bk_func.specs.declared.form.FormKind.TheVariants.{Memory, Order}
use Rattle.bk_form.specs.Names.{measure}
use Rattle.bk_form.proofs.Judging.{kept_here, kept_more, refused, on_result}
use Rattle.bk_form.proofs.check_memory.Goals as goal

pub returns : goal.returns
returns c =
    let s = measure c.args.flow.now.scope in
    let f = c.args.flow.now.scope.func.now in
    let unchained = c.in_ok-unchained in
    let unordered = c.in_ok-unordered in
    let seven = kept_more s f Memory 7 refl c.requires.kept (kept_here s f Memory unchained.unchained unchained.ensures c.in_ok-refuse.ensures) in
    on_result c.refuse-2.result
    (λ x e. kept_more s f Order 8 refl seven (kept_here s f Order unordered.unordered unordered.ensures e))
    (λ e h. refused s f Order unordered.unordered e seven unordered.ensures h)
    c.refuse-2.ensures
