use Rattle.std.proofs.Common.{◌≡◌, ◌∙◌, ap, subst, sym, Some, None}
use Rattle.std.specs.BTreeMap.{get}
use Rattle.std.specs.List.{slice_get}
use Rattle.std.specs.Ordering.{nat_cmp}
use Rattle.bk_alloc.specs.Blocks.{PartRecord, PhiRecord}
use Rattle.bk_alloc.specs.Places.{AreFirst}
use Rattle.bk_alloc.proofs.Firsts.{found_none, found_some, lent}
use Rattle.bk_alloc.proofs.parts.Part.phi.Goals as goal

pub returns-in-Some : goal.returns-in-Some
returns-in-Some c =
    let at : get nat_cmp c.self.inside.phis c.args.value ≡ Some c.in-Some.place = sym c.get.ensures.value ∙ (sym c.copied.ensures ∙ c.in-Some.is) in
    let first : AreFirst (λ (x : PhiRecord). x.value) c.args.self.now.plan.phis c.self.inside.phis =
    subst (λ (p : PartRecord). AreFirst (λ (x : PhiRecord). x.value) p.plan.phis c.self.inside.phis) c.self.view_is c.self.invariant.1 in
    lent c.plan_phis.result.now c.in-Some.place c.get-in-Some.result c.get-in-Some.ensures.lookup ∙ (ap (λ xs. slice_get xs c.in-Some.place) c.plan_phis.ensures ∙ found_some (λ (x : PhiRecord). x.value) c.args.self.now.plan.phis c.self.inside.phis c.args.value c.in-Some.place first at)

pub returns-in-None : goal.returns-in-None
returns-in-None c =
    let at : get nat_cmp c.self.inside.phis c.args.value ≡ None = sym c.get.ensures.value ∙ (sym c.copied.ensures ∙ c.in-None.is) in
    let first : AreFirst (λ (x : PhiRecord). x.value) c.args.self.now.plan.phis c.self.inside.phis =
    subst (λ (p : PartRecord). AreFirst (λ (x : PhiRecord). x.value) p.plan.phis c.self.inside.phis) c.self.view_is c.self.invariant.1 in
    found_none (λ (x : PhiRecord). x.value) c.args.self.now.plan.phis c.self.inside.phis c.args.value first at
