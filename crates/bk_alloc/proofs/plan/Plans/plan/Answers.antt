use Rattle.std.proofs.Common.{◌≡◌, ◌∙◌, ap, map, position, subst, sym, ℕ, Option, Some, None}
use Rattle.std.specs.Prelude.{◌==◌, IfOk}
use Rattle.std.specs.Option.{option_and_then}
use Rattle.bk_alloc.specs.Placement.{plan_at, planned}
use Rattle.bk_alloc.proofs.plan.Plans.plan.Goals as goal

pub returns-in-Some : goal.returns-in-Some
unfolding planned
returns-in-Some c =
    let bs = c.args.self.now.blocks.now in
    let os = map (λ o. o.items) c.args.self.now.orders.now in
    let at : position (λ b. b.id == c.args.number) bs ≡ Some c.in-Some.place = sym (c.requires.places c.args.number) ∙ (sym c.get.ensures.value ∙ (sym c.copied.ensures ∙ c.in-Some.is)) in
    subst (λ (o : Option ℕ). IfOk c.plan_at.result (λ p. p ≡ option_and_then (plan_at bs os) o)) (sym at) c.plan_at.ensures

pub returns-in-None : goal.returns-in-None
unfolding planned
returns-in-None c =
    let bs = c.args.self.now.blocks.now in
    let os = map (λ o. o.items) c.args.self.now.orders.now in
    let at : position (λ b. b.id == c.args.number) bs ≡ None = sym (c.requires.places c.args.number) ∙ (sym c.get.ensures.value ∙ (sym c.copied.ensures ∙ c.in-None.is)) in
    sym (ap (option_and_then (plan_at bs os)) at)
