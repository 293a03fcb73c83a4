use Rattle.std.proofs.Common.{◌≡◌, ◌∙◌, ap, subst, ℕ, Some, Option, get_or, map}
use Rattle.std.specs.List.{Contains, slice_get}
use Rattle.std.specs.Option.{option_and_then}
use Rattle.std.proofs.lemmas.Option.{slice_get-get_or}
use Rattle.bk_live.specs.declared.homes.Spot.{Spot}
use Rattle.bk_live.specs.declared.uses.Use.{Use}
use Rattle.bk_live.specs.Adds.{Adds, Some_of}
use Rattle.bk_live.specs.Homes.{place}
use Rattle.bk_live.specs.Uses.{IsSentAt, end_behind}
use Rattle.bk_live.proofs.Adding.{adds_same, before_none, before_more, before_all, lent}
use Rattle.bk_live.proofs.Listing.{sent_is}
use Rattle.bk_live.proofs.uses.Scope.push_sent.Goals as goal

pub loop-index-init : goal.loop-index-init
loop-index-init c =
    before_none (Contains c.args.uses.now.items) c.args.args.now
    (λ (k n : ℕ) (u : Use). (option_and_then (end_behind (map (λ o. o.items) c.args.self.now.orders.now) (place c.args.self.now.places)) (slice_get c.args.preds.now k) ≡ Some u.spot) × (u.value ≡ n))

pub loop-index-preserved : goal.loop-index-preserved
loop-index-preserved c =
    let os = map (λ o. o.items) c.args.self.now.orders.now in
    let p = place c.args.self.now.places in
    let preds = c.args.preds.now in
    let ns = c.args.args.now in
    let i = c.loop-index.index in
    let spot = c.end_behind.ensures ∙ ap (option_and_then (end_behind os p)) (c.copied.ensures ∙ lent preds i c.get.result c.get.ensures.lookup) in
    before_more (Contains c.args.uses.now.items) (Contains c.loop-index.uses.items) (Contains c.push_at.new.uses.items) ns
    (λ (k n : ℕ) (u : Use). (option_and_then (end_behind os p) (slice_get preds k) ≡ Some u.spot) × (u.value ≡ n)) i (get_or ns i 0) (slice_get-get_or ns i 0 c.loop-index-test.true)
    c.loop-index.invariant
    (subst (λ (o : Option Spot). Adds (Contains c.loop-index.uses.items) (λ (u : Use). (o ≡ Some u.spot) × (u.value ≡ get_or ns i 0)) (Contains c.push_at.new.uses.items)) spot c.in_ok-push_at.ensures)

pub returns : goal.returns
returns c =
    let os = map (λ o. o.items) c.args.self.now.orders.now in
    let p = place c.args.self.now.places in
    let preds = c.args.preds.now in
    let ns = c.args.args.now in
    let R : ℕ → ℕ → Use → Type 0 = λ (k n : ℕ) (u : Use). (option_and_then (end_behind os p) (slice_get preds k) ≡ Some u.spot) × (u.value ≡ n) in
    adds_same (Contains c.args.uses.now.items) (Some_of ns R) (IsSentAt os p preds ns) (Contains c.loop-index.uses.items) (λ u. sent_is os p preds ns u)
    (before_all (Contains c.args.uses.now.items) (Contains c.loop-index.uses.items) ns R c.loop-index.index c.loop-index-test.false c.loop-index.invariant)
