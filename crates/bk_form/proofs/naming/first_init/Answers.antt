use Rattle.std.proofs.Common.{◌∙◌, sym, ap}
use Rattle.std.specs.List.{slice_get}
use Rattle.std.specs.Option.{option_copied}
use Rattle.bk_places.proofs.Elements.{lent}
use Rattle.bk_form.proofs.StateNames.{first_found, none_first, nothing_is}
use Rattle.bk_form.proofs.naming.first_init.Goals as goal

pub returns-in_default : goal.returns-in_default
returns-in_default c =
    none_first c.args.func.now
    (ap (λ xs. slice_get xs 0) (sym (c.deref-blocks.ensures.value ∙ ap (λ v. v.blocks) c.func.view_is)) ∙ (sym (lent c.deref-blocks.result.now 0 c.get-entry.result c.get-entry.ensures.lookup)
    ∙ ap option_copied (nothing_is c.get-entry.result c.in_default.not-Some)))

pub returns : goal.returns
returns c =
    first_found c.args.func.now c.in-Some.block.now c.init_in.result
    (ap (λ xs. slice_get xs 0) (sym (c.deref-blocks.ensures.value ∙ ap (λ v. v.blocks) c.func.view_is)) ∙ (sym (lent c.deref-blocks.result.now 0 c.get-entry.result c.get-entry.ensures.lookup)
    ∙ ap option_copied c.in-Some.is))
    c.init_in.ensures
