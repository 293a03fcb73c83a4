use Rattle.std.proofs.Common.{◌≡◌, ◌∙◌, List, ap, length, map, sym, ℕ}
use Rattle.bk_func.specs.Records.{BlockRecord, FuncRecord}
use Rattle.bk_live.proofs.Tabled.{next_uses_alone, table_next_uses}
use Rattle.bk_live.specs.Table.{next_in}
use Rattle.bk_alloc.specs.Blocks.{Next, allot}
use Rattle.bk_alloc.specs.Placement.{laid_out, registers_of}
use Rattle.bk_alloc.proofs.allocation.allotted.Goals as goal

pub returns : goal.returns
returns c = λ next ordered uses.
    let f = c.args.func.now in
    let os : List (List ℕ) = map (λ o. o.items) c.args.orders.now in
    let t = c.in_ok-table.table in
    let count = length (registers_of c.args.target) in
    let same = next_uses_alone f os next (next_in t) uses (table_next_uses f os t (c.in_ok-table.ensures ordered)) in
    let blocks : c.in_ok-plans.plans.blocks.now ≡ f.blocks = c.in_ok-plans.ensures.blocks ∙ (c.deref.ensures.value ∙ ap (λ (g : FuncRecord). g.blocks) c.func.view_is) in
    c.in_ok-parts.ensures
    ∙ (ap (λ (bs : List BlockRecord). allot (next_in t) count (laid_out bs c.args.layout.now (map (λ o. o.items) c.in_ok-plans.plans.orders.now))) blocks
    ∙ (ap (λ (all : List (List ℕ)). allot (next_in t) count (laid_out f.blocks c.args.layout.now all)) (ap (map (λ o. o.items)) c.in_ok-plans.ensures.orders)
    ∙ ap (λ (m : Next). allot m count (laid_out f.blocks c.args.layout.now os)) (sym same)))
