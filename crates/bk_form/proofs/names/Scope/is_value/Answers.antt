use Rattle.std.proofs.Common.{◌∙◌, sym, ap}
use Rattle.std.specs.Option.{is_some}
use Rattle.bk_form.proofs.Symbols.{value_number}
use Rattle.bk_form.proofs.names.Scope.is_value.Goals as goal

pub returns : goal.returns
returns c =
    let e = c.is_some.ensures ∙ ap is_some c.value.ensures in
    let (to, from) = value_number _ _ c.args.id c.requires.numbers in
    ((λ t. to (sym e ∙ t)), (λ h. e ∙ from h))
