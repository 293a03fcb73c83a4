use Rattle.std.proofs.Common.{◌≡◌, ◌∙◌, sym, ap, None, get_or, arith}
use Rattle.std.specs.List.{slice_get}
use Rattle.std.specs.Option.{unwrap_or}
use Rattle.bk_places.proofs.Elements.{lent}
use Rattle.bk_form.proofs.Symbols.{func_at, no_func}
use Rattle.bk_form.proofs.names.Scope.func_named.Goals as goal
use Rattle.bk_form.proofs.names.Scope.func_named.Goals.{After-unwrap_or-place}

noted : (c : After-unwrap_or-place) → c.unwrap_or-place.result ≡ get_or c.args.self.now.names.now.funcs.items c.args.symbol None
noted c =
    c.unwrap_or-place.ensures ∙ (ap (λ o. unwrap_or o None) c.copied.ensures ∙ (c.get.ensures.lookup.4 (omega arith) None ∙ ap (λ xs. get_or xs c.args.symbol None) c.deref.ensures.value))

pub returns-in-Some : goal.returns-in-Some
returns-in-Some c =
    let t = noted (goal.at.returns-in-Some c).After-unwrap_or-place in
    let k = c.in-Some.place in
    lent c.deref-funcs.result.now k c.get-in-Some.result c.get-in-Some.ensures.lookup
    ∙ (ap (λ xs. slice_get xs k) (c.deref-funcs.ensures.value ∙ ap (λ v. v.funcs) c.pkg.view_is)
    ∙ func_at _ _ c.args.symbol k c.requires.names (sym t ∙ c.in-Some.is))

pub returns-in-None : goal.returns-in-None
returns-in-None c =
    let t = noted (goal.at.returns-in-None c).After-unwrap_or-place in
    no_func _ _ c.args.symbol c.requires.names (sym t ∙ c.in-None.is)
