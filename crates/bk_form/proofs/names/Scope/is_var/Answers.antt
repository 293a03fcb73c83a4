use Rattle.std.proofs.Common.{◌≡◌, ◌∙◌, sym, ap, false, get_or, arith}
use Rattle.std.specs.Option.{unwrap_or}
use Rattle.bk_form.proofs.Symbols.{variable, is_variable}
use Rattle.bk_form.proofs.names.Scope.is_var.Goals as goal

pub returns : goal.returns
returns c =
    let e : c.unwrap_or.result ≡ get_or c.args.self.now.names.now.vars.items c.args.symbol false =
    c.unwrap_or.ensures ∙ (ap (λ o. unwrap_or o false) c.copied.ensures ∙ (c.get.ensures.lookup.4 (omega arith) false ∙ ap (λ xs. get_or xs c.args.symbol false) c.deref.ensures.value)) in
    ((λ t. variable _ _ c.args.symbol c.requires.names (sym e ∙ t)), (λ v. e ∙ is_variable _ _ c.args.symbol c.requires.names v))
