-- The tables of a function by places.
use Rattle.std.specs.Prelude.{◌≡◌, List}
use Rattle.bk_func.specs.Records.{BlockRecord}
use Rattle.bk_graph.specs.declared.graph.Graph.{Graph}
use Rattle.bk_graph.specs.Named.{block_ids}
use Rattle.bk_graph.specs.Nodes.{nodes_from, offsets_from, value_ids, place_in, control_in, succ_places, arg_places, control_places, edge_lists}

-- the tables are those of these blocks
pub record IsGraphOf (bs : List BlockRecord) (g : Graph) : Type 0 where
  pub blocks : g.blocks.now ≡ bs
  pub nodes : g.nodes.items ≡ nodes_from 0 bs
  pub offsets : g.offsets.items ≡ offsets_from 0 bs
  pub succs : g.succs ≡ succ_places (place_in (block_ids bs)) bs
  pub edges : g.edges ≡ edge_lists (place_in (block_ids bs)) bs
  pub args : g.args ≡ arg_places (place_in (value_ids (nodes_from 0 bs))) (nodes_from 0 bs)
  pub controls : g.controls.items ≡ control_places (control_in (value_ids (nodes_from 0 bs))) bs
