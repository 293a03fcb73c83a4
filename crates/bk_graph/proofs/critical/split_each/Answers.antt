use Rattle.std.proofs.Common.{◌≡◌, ◌∙◌, sym, ap, ℕ, ◌+◌, ◌-◌, ◌<◌, ◌^◌, arith}
use Rattle.bk_func.specs.Edits.{greatest_block, split}
use Rattle.bk_graph.specs.Critical.{EdgeRecord}
use Rattle.bk_graph.proofs.Splitting.{edges_kept, greatest_split, split_next, split_none}
use Rattle.bk_graph.proofs.critical.split_each.Goals as goal

room_next : (g h n i : ℕ) → g + (n - i) < 2 ^ 32 → h ≡ g + 1 → i < n → h + (n - (i + 1)) < 2 ^ 32
room_next g h n i l e m = omega arith

pub loop-edge-preserved : goal.loop-edge-preserved
loop-edge-preserved c =
    let es = c.args.edges.now in
    let i = c.loop-edge.edge-index in
    let e = c.edge-item.result in
    let f = c.loop-edge.func in
    let g = c.split_edge.new.func in
    let is : g ≡ split f e.from e.index = c.in_ok-split_edge.ensures.ok ∙ ap (λ (x : EdgeRecord). split f x.from x.index) c.edge.view_is in
    record {
      edges = edges_kept f g es e c.loop-edge.invariant.edges is;
      room = room_next (greatest_block f) (greatest_block g) _ i c.loop-edge.invariant.room (ap greatest_block is ∙ greatest_split f e.from e.index) (omega arith);
      split = split_next f g es i e (omega arith) c.edge-item.is is ∙ c.loop-edge.invariant.split;
    }

pub returns : goal.returns
returns c = sym (split_none c.loop-edge.func c.args.edges.now c.loop-edge.edge-index (omega arith)) ∙ c.loop-edge.invariant.split
