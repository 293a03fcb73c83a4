use Rattle.std.proofs.Common.{◌≡◌, ◌∙◌, ap, option_map, subst, sym, ℕ, Bool, List, Option}
use Rattle.std.proofs.Math.Path.{fun_ext}
use Rattle.std.specs.Prelude.{IfOk}
use Rattle.std.specs.BTreeSet.{contains}
use Rattle.std.specs.List.{slice_get}
use Rattle.std.specs.Option.{option_copied}
use Rattle.std.specs.Ordering.{nat_cmp}
use Rattle.std.proofs.lemmas.Option.{slice_get-map}
use Rattle.bk_func.specs.Records.{BlockRecord}
use Rattle.bk_alloc.specs.Blocks.{PlanRecord}
use Rattle.bk_alloc.specs.Placement.{is_word, plan_by}
use Rattle.bk_alloc.proofs.Firsts.{lent}
use Rattle.bk_alloc.proofs.plan.Plans.plan_at.Goals as goal

pub returns : goal.returns
returns c =
    let bs = c.args.self.now.blocks.now in
    let i = c.args.place in
    let words : contains nat_cmp c.args.self.now.words ≡ is_word bs = fun_ext c.requires.words in
    let block = lent bs i c.get-block.result c.get-block.ensures.lookup in
    let order = ap (option_map (λ o. o.items)) (lent c.args.self.now.orders.now i c.get-order.result c.get-order.ensures.lookup) ∙ sym (slice_get-map (λ o. o.items) c.args.self.now.orders.now i) in
    let same = ap (λ (w : ℕ → Bool). plan_by w (option_copied c.get-block.result) (option_map (λ o. o.items) (option_copied c.get-order.result))) words
    ∙ (ap (λ (b : Option BlockRecord). plan_by (is_word bs) b (option_map (λ o. o.items) (option_copied c.get-order.result))) block
    ∙ ap (λ (o : Option (List ℕ)). plan_by (is_word bs) (slice_get bs i) o) order) in
    subst (λ (p : Option PlanRecord). IfOk c.plan_by.result (λ plan. plan ≡ p)) same c.plan_by.ensures
