use Rattle.std.proofs.Common.{◌≡◌, ◌∙◌, ap, ℕ, ◌++◌, List, length}
use Rattle.bk_func.specs.Records.{BlockRecord, FuncRecord}
use Rattle.bk_graph.specs.Named.{block_ids}
use Rattle.bk_graph.specs.Nodes.{NodeRecord, nodes_from, offsets_from, value_ids, place_in, control_in, succ_places, arg_places, control_places, edge_lists}
use Rattle.bk_graph.proofs.Firsts.{place_by_first, control_by_first}
use Rattle.bk_graph.proofs.graph.Graph.new.Goals as goal

pub returns : goal.returns
returns c =
    let bs : List BlockRecord = c.args.func.now.blocks in
    let ds : List BlockRecord = c.deref-blocks.result.now in
    let is : ds ≡ bs = c.deref-blocks.ensures.value ∙ ap (λ (x : FuncRecord). x.blocks) c.func.view_is in
    let blocks = place_by_first (block_ids ds) c.in_ok-block_places.block_places c.in_ok-block_places.ensures in
    let ns : List NodeRecord = nodes_from 0 bs in
    let nodes : c.list_nodes.new.nodes.items ≡ ns =
    c.in_ok-offsets.ensures.nodes ∙ ap (λ (xs : List NodeRecord). xs ++ nodes_from 0 ds) c.new-nodes.ensures.items ∙ ap (nodes_from 0) is in
    let ids : c.deref-2.result.now ≡ value_ids ns = c.deref-2.ensures.value ∙ c.in_ok-value_ids.ensures ∙ ap value_ids (c.deref.ensures.value ∙ nodes) in
    let values = place_by_first c.deref-2.result.now c.in_ok-value_places.value_places c.in_ok-value_places.ensures in
    let controls = control_by_first c.deref-2.result.now c.in_ok-value_places.value_places c.in_ok-value_places.ensures in
    record {
      blocks = is;
      nodes = nodes;
      offsets = c.in_ok-offsets.ensures.offsets ∙ ap (λ (xs : List NodeRecord). offsets_from (length xs) ds) c.new-nodes.ensures.items ∙ ap (offsets_from 0) is;
      succs = c.in_ok-succs.ensures ∙ ap (λ h. succ_places h ds) blocks ∙ ap (λ (x : List BlockRecord). succ_places (place_in (block_ids x)) x) is;
      edges = c.in_ok-edges.ensures ∙ ap (λ h. edge_lists h ds) blocks ∙ ap (λ (x : List BlockRecord). edge_lists (place_in (block_ids x)) x) is;
      args = c.in_ok-args.ensures ∙ ap (λ h. arg_places h c.deref-3.result.now) values
          ∙ ap (λ (x : List ℕ). arg_places (place_in x) c.deref-3.result.now) ids
          ∙ ap (λ (x : List NodeRecord). arg_places (place_in (value_ids ns)) x) (c.deref-3.ensures.value ∙ nodes);
      controls = c.in_ok-controls.ensures ∙ ap (λ h. control_places h ds) controls ∙ ap (λ (x : List ℕ). control_places (control_in x) ds) ids
          ∙ ap (λ (x : List BlockRecord). control_places (control_in (value_ids ns)) x) is;
    }
