use Rattle.std.proofs.Common.{◌∙◌, sym, ap, subst, ℕ, List, Option, map}
use Rattle.std.specs.List.{Contains}
use Rattle.std.proofs.lemmas.Bool.{false≢true}
use Rattle.bk_live.specs.declared.homes.Spot.{Spot}
use Rattle.bk_live.specs.Adds.{Adds}
use Rattle.bk_live.specs.Homes.{home, place}
use Rattle.bk_live.specs.Uses.{IsSentAt, IsTakenAt}
use Rattle.bk_live.proofs.Listing.{phi_uses, plain_uses}
use Rattle.bk_live.proofs.uses.Scope.push_value.Goals as goal

pub returns-then-is_phi : goal.returns-then-is_phi
returns-then-is_phi c =
    let os = map (λ o. o.items) c.args.self.now.orders.now in
    let h = home c.args.self.now.homes in
    let p = place c.args.self.now.places in
    let preds = c.args.preds.now in
    phi_uses os h p preds c.args.value.now (Contains c.args.uses.now.items) (Contains c.push_sent.new.uses.items) (c.is_phi.ensures.0 c.if-is_phi.true)
    (subst (λ (ns : List ℕ). Adds (Contains c.args.uses.now.items) (IsSentAt os p preds ns) (Contains c.push_sent.new.uses.items))
    (c.as_slice-args.ensures ∙ ap (λ v. v.args) c.value.view_is) c.in_ok-push_sent.ensures)

pub returns : goal.returns
returns c =
    let os = map (λ o. o.items) c.args.self.now.orders.now in
    let h = home c.args.self.now.homes in
    let p = place c.args.self.now.places in
    plain_uses os h p c.args.preds.now c.args.value.now (Contains c.args.uses.now.items) (Contains c.push_taken.new.uses.items)
    (λ phi. false≢true (sym c.if-is_phi.false ∙ c.is_phi.ensures.1 phi))
    (subst (λ (ns : List ℕ). Adds (Contains c.args.uses.now.items) (IsTakenAt (h c.args.value.now.id) ns) (Contains c.push_taken.new.uses.items))
    (c.as_slice-args.ensures ∙ ap (λ v. v.args) c.value.view_is)
    (subst (λ (s : Option Spot). Adds (Contains c.args.uses.now.items) (IsTakenAt s c.as_slice-args.result.now) (Contains c.push_taken.new.uses.items))
    (c.find.ensures ∙ ap h (ap (λ v. v.id) c.value.view_is)) c.in_ok-push_taken.ensures))
