use Rattle.std.proofs.Common.{◌≡◌, ◌∙◌, sym, ap, None, get_or, length, arith}
use Rattle.std.specs.List.{slice_get}
use Rattle.std.specs.Option.{unwrap_or}
use Rattle.bk_func.specs.Records.{FuncRecord}
use Rattle.bk_callees.proofs.Found.{lent, first_at, none_first}
use Rattle.bk_callees.proofs.callees.Callees.func_named.Goals as goal
use Rattle.bk_callees.proofs.callees.Callees.func_named.Goals.{After-unwrap_or-place}

noted : (c : After-unwrap_or-place) → c.unwrap_or-place.result ≡ get_or c.args.self.now.firsts.items c.args.symbol None
noted c =
    c.unwrap_or-place.ensures ∙ (ap (λ o. unwrap_or o None) c.copied.ensures ∙ (c.get.ensures.lookup.4 (omega arith) None ∙ ap (λ xs. get_or xs c.args.symbol None) c.deref.ensures.value))

pub returns-in-Some : goal.returns-in-Some
returns-in-Some c =
    let t = noted (goal.at.returns-in-Some c).After-unwrap_or-place in
    let k = c.in-Some.place in
    let p = c.args.pkg.now in
    lent c.deref-funcs.result.now k c.get-in-Some.result c.get-in-Some.ensures.lookup
    ∙ (ap (λ xs. slice_get xs k) (c.deref-funcs.ensures.value ∙ ap (λ v. v.funcs) c.pkg.view_is)
    ∙ first_at (λ (g : FuncRecord). g.name) p.funcs c.args.self.now.firsts.items (length p.names) c.args.symbol k c.requires.count c.requires.first (sym t ∙ c.in-Some.is))

pub returns-in-None : goal.returns-in-None
returns-in-None c =
    let t = noted (goal.at.returns-in-None c).After-unwrap_or-place in
    let p = c.args.pkg.now in
    none_first (λ (g : FuncRecord). g.name) p.funcs c.args.self.now.firsts.items (length p.names) c.args.symbol c.requires.first (sym t ∙ c.in-None.is)
