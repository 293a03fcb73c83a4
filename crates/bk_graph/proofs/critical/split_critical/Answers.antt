use Rattle.std.proofs.Common.{◌≡◌, ◌∙◌, sym, subst, ◌+◌, ◌<◌, ◌^◌, List, length}
use Rattle.std.specs.List.{Contains}
use Rattle.bk_func.specs.Records.{FuncRecord}
use Rattle.bk_func.specs.Edits.{greatest_block, IsEdge}
use Rattle.bk_graph.specs.Critical.{EdgeRecord, critical_edges}
use Rattle.bk_graph.proofs.Crossing.{critical_are_edges, enough_numbers}
use Rattle.bk_graph.proofs.critical.split_critical.Goals as goal

pub split_each-requires-clause-edges : goal.split_each-requires-clause-edges
split_each-requires-clause-edges c = λ e i.
    let listed : c.deref.result.now ≡ critical_edges c.args.func.now = c.deref.ensures.value ∙ c.in_ok-edges.ensures in
    let there = critical_are_edges c.args.func.now c.requires e (subst (λ (es : List EdgeRecord). Contains es e) listed i) in
    subst (λ (f : FuncRecord). IsEdge f e.from e.index) (sym c.in_ok-split.ensures) there

pub split_each-requires-clause-room : goal.split_each-requires-clause-room
split_each-requires-clause-room c =
    let listed : c.deref.result.now ≡ critical_edges c.args.func.now = c.deref.ensures.value ∙ c.in_ok-edges.ensures in
    subst (λ (f : FuncRecord). greatest_block f + length c.deref.result.now < 2 ^ 32) (sym c.in_ok-split.ensures)
    (subst (λ (es : List EdgeRecord). greatest_block c.args.func.now + length es < 2 ^ 32) (sym listed) (enough_numbers c.args.func.now c.requires))
