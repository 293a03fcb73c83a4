use Rattle.std.proofs.Common.{rules, ◌≡◌, ap, sym, ◌∙◌, arith, Some, None, suc, length}
use Rattle.std.specs.Prelude.{◌==◌}
use Rattle.std.specs.Ordering.{nat_cmp}
use Rattle.std.specs.BTreeMap.{get}
use Rattle.bk_num.specs.Memory.{data_base}
use Rattle.bk_mean.proofs.Firsts.{place_some, place_none, length-starts}
use Rattle.bk_mean.proofs.symbols.Symbols.var.Goals as goal

pub returns-in-Some : goal.returns-in-Some
returns-in-Some c = λ p h.
    let g : get nat_cmp c.args.self.now.vars c.args.name ≡ Some c.in-Some.place.now = search rules in
    sym (place_some (λ x. x.name == c.args.name) p.vars c.in-Some.place.now (sym (h.vars c.args.name) ∙ g))

pub returns-in-None : goal.returns-in-None
returns-in-None c = λ p h.
    let g : get nat_cmp c.args.self.now.vars c.args.name ≡ None = search rules in
    let n = place_none (λ x. x.name == c.args.name) p.vars (sym (h.vars c.args.name) ∙ g) in
    let l = length-starts p.vars data_base in
    let e : length c.args.self.now.starts.items ≡ suc (length p.vars) = ap length h.starts ∙ l in
    grind (arith, n, e)
