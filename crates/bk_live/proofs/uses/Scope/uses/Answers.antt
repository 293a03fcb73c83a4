use Rattle.std.proofs.Common.{◌∙◌, ◌≤◌, sym, ap, subst, ℕ, List, [], inr, ⊎_elim, map, length, arith}
use Rattle.std.specs.List.{Contains}
use Rattle.bk_func.specs.Records.{BlockRecord}
use Rattle.bk_live.specs.declared.uses.Use.{Use}
use Rattle.bk_live.specs.Adds.{Adds, Some_before}
use Rattle.bk_live.specs.Homes.{home, place}
use Rattle.bk_live.specs.Uses.{IsUseIn}
use Rattle.bk_live.proofs.Adding.{before_none, before_more, before_all, item_at}
use Rattle.bk_live.proofs.uses.Scope.uses.Goals as goal

pub loop-at-init : goal.loop-at-init
loop-at-init c =
    let R : ℕ → BlockRecord → Use → Type 0 = λ (k : ℕ) (b : BlockRecord) (u : Use). IsUseIn (map (λ o. o.items) c.args.self.now.orders.now) (home c.args.self.now.homes) (place c.args.self.now.places) k b u in
    subst (λ (us : List Use). Adds (Contains {X = Use} []) (Some_before c.args.func.now.blocks R 0) (Contains us)) (sym c.new-uses.ensures.items)
    (before_none (Contains {X = Use} []) c.args.func.now.blocks R)

pub loop-at-preserved : goal.loop-at-preserved
loop-at-preserved c =
    let R : ℕ → BlockRecord → Use → Type 0 = λ (k : ℕ) (b : BlockRecord) (u : Use). IsUseIn (map (λ o. o.items) c.args.self.now.orders.now) (home c.args.self.now.homes) (place c.args.self.now.places) k b u in
    let i = c.loop-at.at in
    before_more (Contains {X = Use} []) (Contains c.loop-at.uses.items) (Contains c.push_block.new.uses.items) c.args.func.now.blocks R i c.block-item.result
    (item_at (c.deref-block-items.ensures.value ∙ ap (λ f. f.blocks) c.func.view_is) i c.block-item.result c.loop-at-test.true c.block-item.is) c.loop-at.invariant c.in_ok-push_block.ensures

pub returns : goal.returns
returns c = λ u.
    let R : ℕ → BlockRecord → Use → Type 0 = λ (k : ℕ) (b : BlockRecord) (u : Use). IsUseIn (map (λ o. o.items) c.args.self.now.orders.now) (home c.args.self.now.homes) (place c.args.self.now.places) k b u in
    let over = subst (λ (bs : List BlockRecord). length bs ≤ c.loop-at.at) (c.deref-block-items.ensures.value ∙ ap (λ f. f.blocks) c.func.view_is) c.loop-at-test.false in
    let all = before_all (Contains {X = Use} []) (Contains c.loop-at.uses.items) c.args.func.now.blocks R c.loop-at.at over c.loop-at.invariant in (
      (λ m. ⊎_elim (λ (k, l, e). absurd (omega arith)) (λ s. s) ((all.each u).0 m)),
      (λ s. (all.each u).1 (inr s)),
    )
