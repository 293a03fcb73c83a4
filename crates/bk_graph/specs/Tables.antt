-- A function by places: its blocks and values in list order, and the places that its numbers name. A number names what bears it
-- first; one that nothing bears has a place past every list.
use Rattle.std.specs.Prelude.{ℕ, List, [], Option, None, slice_index_or}
use Rattle.bk_func.specs.Records.{BlockRecord, FuncRecord}
use Rattle.bk_graph.specs.declared.graph.Edge.{Edge}
use Rattle.bk_graph.specs.Named.{block_ids}
use Rattle.bk_graph.specs.Nodes.{NodeRecord, nodes_from, offsets_from, value_ids, place_in, control_in, arg_places, control_places, edge_lists}

-- the blocks; the values; for each block the count of values before its own; for each block the edges to it, in the order of
-- its predecessors; for each value the places of its arguments; for each block the place of its control
pub record Tables : Type 0 where
  pub blocks : List BlockRecord
  pub nodes : List NodeRecord
  pub offsets : List ℕ
  pub edges : List (List Edge)
  pub args : List (List ℕ)
  pub controls : List (Option ℕ)

unfoldable pub tables_of : FuncRecord → Tables
tables_of f = record {
  blocks = f.blocks;
  nodes = nodes_from 0 f.blocks;
  offsets = offsets_from 0 f.blocks;
  edges = edge_lists (place_in (block_ids f.blocks)) f.blocks;
  args = arg_places (place_in (value_ids (nodes_from 0 f.blocks))) (nodes_from 0 f.blocks);
  controls = control_places (control_in (value_ids (nodes_from 0 f.blocks))) f.blocks;
}

abbrev pub edges_to : Tables → ℕ → List Edge
edges_to t b = slice_index_or t.edges b []

abbrev pub args_of : Tables → ℕ → List ℕ
args_of t p = slice_index_or t.args p []

abbrev pub control_of : Tables → ℕ → Option ℕ
control_of t b = slice_index_or t.controls b None
