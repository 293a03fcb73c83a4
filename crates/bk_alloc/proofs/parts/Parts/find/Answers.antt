use Rattle.std.proofs.Common.{◌≡◌, ◌∙◌, List, ap, subst, sym, Some, None}
use Rattle.std.specs.BTreeMap.{get}
use Rattle.std.specs.List.{slice_get}
use Rattle.std.specs.Ordering.{nat_cmp}
use Rattle.bk_alloc.specs.Blocks.{PartRecord}
use Rattle.bk_alloc.specs.Places.{AreFirst}
use Rattle.bk_alloc.proofs.Firsts.{found_none, found_some, lent}
use Rattle.bk_alloc.proofs.parts.Parts.find.Goals as goal

pub returns-in-Some : goal.returns-in-Some
returns-in-Some c =
    let at : get nat_cmp c.self.inside.places c.args.number ≡ Some c.in-Some.place = sym c.get.ensures.value ∙ (sym c.copied.ensures ∙ c.in-Some.is) in
    let first : AreFirst (λ (p : PartRecord). p.plan.id) c.args.self.now c.self.inside.places =
    subst (λ (ps : List PartRecord). AreFirst (λ (p : PartRecord). p.plan.id) ps c.self.inside.places) c.self.view_is c.self.invariant in
    let same : c.deref.result.now ≡ c.args.self.now = c.deref.ensures.value ∙ c.self.view_is in
    lent c.deref.result.now c.in-Some.place c.get-in-Some.result c.get-in-Some.ensures.lookup ∙ (ap (λ xs. slice_get xs c.in-Some.place) same ∙ found_some (λ (p : PartRecord). p.plan.id) c.args.self.now c.self.inside.places c.args.number c.in-Some.place first at)

pub returns-in-None : goal.returns-in-None
returns-in-None c =
    let at : get nat_cmp c.self.inside.places c.args.number ≡ None = sym c.get.ensures.value ∙ (sym c.copied.ensures ∙ c.in-None.is) in
    let first : AreFirst (λ (p : PartRecord). p.plan.id) c.args.self.now c.self.inside.places =
    subst (λ (ps : List PartRecord). AreFirst (λ (p : PartRecord). p.plan.id) ps c.self.inside.places) c.self.view_is c.self.invariant in
    found_none (λ (p : PartRecord). p.plan.id) c.args.self.now c.self.inside.places c.args.number first at
