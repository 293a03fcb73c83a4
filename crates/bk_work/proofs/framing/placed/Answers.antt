use Rattle.std.proofs.Common.{◌∙◌, ap, map, subst, sym, List, Vec, Global, ℕ}
use Rattle.bk_func.specs.Records.{BlockRecord, FuncRecord}
use Rattle.bk_sched.specs.Schedule.{IsSchedule}
use Rattle.bk_work.specs.Each.{Each}
use Rattle.bk_work.proofs.Steps.{placed_is}
use Rattle.bk_work.proofs.framing.placed.Goals as goal

pub returns : goal.returns
returns c =
    let blocks = c.deref.ensures.value ∙ ap (λ (f : FuncRecord). f.blocks) c.func.view_is in
    let listed = ap (map (λ (o : Vec ℕ Global). o.items)) c.deref-3.ensures.value in
    let orders = map (λ (o : Vec ℕ Global). o.items) c.deref-3.result.now in
    let scheduled : Each IsSchedule c.args.func.now.blocks orders =
    subst (λ (bs : List BlockRecord). Each IsSchedule bs orders) blocks (subst (λ (os : List (List ℕ)). Each IsSchedule c.deref.result.now os) (sym listed) c.in_ok-orders.ensures) in
    placed_is c.args.pkg.now c.args.target c.args.func.now c.deref-2.result.now orders c.allocate_by.result scheduled (c.deref-2.ensures.value ∙ c.in_ok-layout.ensures) c.allocate_by.ensures
