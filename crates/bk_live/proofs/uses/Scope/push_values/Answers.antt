use Rattle.std.proofs.Common.{refl, ℕ, map}
use Rattle.std.specs.List.{Contains}
use Rattle.bk_func.specs.Records.{ValueRecord}
use Rattle.bk_live.specs.declared.uses.Use.{Use}
use Rattle.bk_live.specs.Adds.{Some_of}
use Rattle.bk_live.specs.Homes.{home, place}
use Rattle.bk_live.specs.Uses.{IsUseOf}
use Rattle.bk_live.proofs.Adding.{adds_same, before_none, before_more, before_all, item_at, some_in}
use Rattle.bk_live.proofs.uses.Scope.push_values.Goals as goal

pub loop-value-init : goal.loop-value-init
loop-value-init c =
    before_none (Contains c.args.uses.now.items) c.args.values.now
    (λ (k : ℕ) (v : ValueRecord) (u : Use). IsUseOf (map (λ o. o.items) c.args.self.now.orders.now) (home c.args.self.now.homes) (place c.args.self.now.places) c.args.preds.now v u)

pub loop-value-preserved : goal.loop-value-preserved
loop-value-preserved c =
    let i = c.loop-value.value-index in
    before_more (Contains c.args.uses.now.items) (Contains c.loop-value.uses.items) (Contains c.push_value.new.uses.items) c.args.values.now
    (λ (k : ℕ) (v : ValueRecord) (u : Use). IsUseOf (map (λ o. o.items) c.args.self.now.orders.now) (home c.args.self.now.homes) (place c.args.self.now.places) c.args.preds.now v u) i
    c.value-item.result (item_at refl i c.value-item.result c.loop-value-test.true c.value-item.is) c.loop-value.invariant c.in_ok-push_value.ensures

pub returns : goal.returns
returns c =
    let os = map (λ o. o.items) c.args.self.now.orders.now in
    let h = home c.args.self.now.homes in
    let p = place c.args.self.now.places in
    let preds = c.args.preds.now in
    let vs = c.args.values.now in
    let R : ℕ → ValueRecord → Use → Type 0 = λ (k : ℕ) (v : ValueRecord) (u : Use). IsUseOf os h p preds v u in
    adds_same (Contains c.args.uses.now.items) (Some_of vs R) (λ (u : Use). (v : ValueRecord) × Contains vs v × IsUseOf os h p preds v u) (Contains c.loop-value.uses.items)
    (λ u. some_in vs (λ (v : ValueRecord) (u : Use). IsUseOf os h p preds v u) u)
    (before_all (Contains c.args.uses.now.items) (Contains c.loop-value.uses.items) vs R c.loop-value.value-index c.loop-value-test.false c.loop-value.invariant)
