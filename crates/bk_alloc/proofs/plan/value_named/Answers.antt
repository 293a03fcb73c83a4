use Rattle.std.proofs.Common.{◌≡◌, ◌∙◌, sym, Some, None}
use Rattle.std.specs.BTreeMap.{get}
use Rattle.std.specs.Ordering.{nat_cmp}
use Rattle.bk_func.specs.Records.{ValueRecord}
use Rattle.bk_alloc.proofs.Firsts.{found_none, found_some, lent}
use Rattle.bk_alloc.proofs.plan.value_named.Goals as goal

pub returns-in-Some : goal.returns-in-Some
returns-in-Some c =
    let at : get nat_cmp c.args.places.now c.args.number ≡ Some c.in-Some.place = sym c.get.ensures.value ∙ (sym c.copied.ensures ∙ c.in-Some.is) in
    let first = c.requires in
    lent c.args.values.now c.in-Some.place c.get-in-Some.result c.get-in-Some.ensures.lookup ∙ (found_some (λ (v : ValueRecord). v.id) c.args.values.now c.args.places.now c.args.number c.in-Some.place first at)

pub returns-in-None : goal.returns-in-None
returns-in-None c =
    let at : get nat_cmp c.args.places.now c.args.number ≡ None = sym c.get.ensures.value ∙ (sym c.copied.ensures ∙ c.in-None.is) in
    let first = c.requires in
    found_none (λ (v : ValueRecord). v.id) c.args.values.now c.args.places.now c.args.number first at
