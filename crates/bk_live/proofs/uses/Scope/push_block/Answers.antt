use Rattle.std.proofs.Common.{◌≡◌, ◌∙◌, ap, subst, ℕ, List, Option, Some, map}
use Rattle.std.specs.List.{Contains}
use Rattle.bk_func.specs.Records.{ValueRecord}
use Rattle.bk_live.specs.declared.homes.Spot.{Spot}
use Rattle.bk_live.specs.declared.uses.Use.{Use}
use Rattle.bk_live.specs.Adds.{Adds}
use Rattle.bk_live.specs.Homes.{end_of, home, place}
use Rattle.bk_live.specs.Uses.{IsUseOf}
use Rattle.bk_live.proofs.Listing.{block_uses}
use Rattle.bk_live.proofs.uses.Scope.push_block.Goals as goal

pub returns : goal.returns
returns c =
    let os = map (λ o. o.items) c.args.self.now.orders.now in
    let h = home c.args.self.now.homes in
    let p = place c.args.self.now.places in
    let P = Contains c.args.uses.now.items in
    let Q = Contains c.push_control.new.uses.items in
    let T = Contains c.push_values.new.uses.items in
    block_uses os h p c.args.at c.args.block.now P Q T
    (subst (λ (o : Option ℕ). Adds P (λ (u : Use). (o ≡ Some u.value) × (end_of os c.args.at ≡ u.spot)) Q) (ap (λ b. b.control) c.block.view_is)
    (subst (λ (s : Spot). Adds P (λ (u : Use). (c.block.inside.control ≡ Some u.value) × (s ≡ u.spot)) Q) c.end_of.ensures c.in_ok-push_control.ensures))
    (subst (λ (ns : List ℕ). Adds Q (λ (u : Use). (v : ValueRecord) × Contains c.args.block.now.values v × IsUseOf os h p ns v u) T)
    (c.deref.ensures.value ∙ ap (λ b. b.preds) c.block.view_is)
    (subst (λ (vs : List ValueRecord). Adds Q (λ (u : Use). (v : ValueRecord) × Contains vs v × IsUseOf os h p c.deref.result.now v u) T)
    (c.deref-2.ensures.value ∙ ap (λ b. b.values) c.block.view_is) c.in_ok-push_values.ensures))
