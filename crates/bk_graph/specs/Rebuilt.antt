-- The function that is left: the blocks that are reached, the edges that stay, and the needed values, with each use naming the value that stands for it.
use Rattle.std.specs.Prelude.{ℕ, ◌+◌, ◌||◌, not, Bool, List, [], ◌∷◌, length, min, Option, None, Some, option_map, slice_get, slice_index_or}
use Rattle.std.specs.Option.{unwrap_or}
use Rattle.bk_func.specs.declared.parts.Kind.TheVariants.{Plain}
use Rattle.bk_func.specs.declared.parts.Likely.TheVariants.{No}
use Rattle.bk_func.specs.Records.{ValueRecord, BlockRecord, FuncRecord}
use Rattle.bk_graph.specs.declared.graph.Edge.{Edge}
use Rattle.bk_graph.specs.Clean.{is_phi}
use Rattle.bk_graph.specs.Facts.{Facts, edge_stays}
use Rattle.bk_graph.specs.Known.{stays_there}
use Rattle.bk_graph.specs.Lists.{picked}
use Rattle.bk_graph.specs.Nodes.{or_past}
use Rattle.bk_graph.specs.Tables.{Tables, edges_to, args_of, control_of}

-- values

abbrev pub number_at : Tables → ℕ → Option ℕ
number_at t p = option_map (λ n. n.value.id) (slice_get t.nodes p)

-- the number of what stands for the value at the place, which has this number
abbrev pub standing : Tables → Facts → ℕ → ℕ → ℕ
standing t F p n = unwrap_or (number_at t (F.root p)) n

-- the place that lies so far behind another one
unfoldable pub behind : ℕ → ℕ → ℕ
behind p k = min (p + k) 18446744073709551615

-- blocks and values

abbrev pub kept_preds : Facts → List Edge → List ℕ → List ℕ
kept_preds F es ns = picked (λ k. stays_there (edge_stays F) (slice_get es k)) (λ k n. n) 0 ns

-- a phi keeps the arguments of the edges that stay
abbrev pub kept_args : Tables → Facts → Bool → List Edge → List ℕ → List ℕ → List ℕ
kept_args t F phi es ps ns =
    picked (λ k. not phi || stays_there (edge_stays F) (slice_get es k)) (λ k n. standing t F (or_past (slice_get ps k)) n) 0 ns

abbrev pub kept_value : Tables → Facts → List Edge → ℕ → ValueRecord → ValueRecord
kept_value t F es p v = record v { args = kept_args t F (is_phi v.op.family) es (args_of t p) v.args }

abbrev pub kept_values : Tables → Facts → (ℕ → Bool) → List Edge → ℕ → List ValueRecord → List ValueRecord
kept_values t F needed es p vs = picked (λ k. needed (behind p k)) (λ k v. kept_value t F es (behind p k) v) 0 vs

abbrev pub kept_control : Tables → Facts → Option ℕ → Option ℕ → Option ℕ
kept_control t F None c = c
kept_control t F (Some p) c = option_map (standing t F p) c

abbrev pub only : Option ℕ → List ℕ
only None = []
only (Some n) = n ∷ []

-- the block under this choice, with its kept predecessors and values, its control having this place
abbrev pub ended : Tables → Facts → Option ℕ → Option ℕ → BlockRecord → BlockRecord
ended t F None place b = record b { control = kept_control t F place b.control }
ended t F (Some k) place b = record b { kind = Plain; control = None; succs = only (slice_get b.succs k); likely = No }

abbrev pub offset_of : Tables → ℕ → ℕ
offset_of t p = slice_index_or t.offsets p (length t.nodes)

abbrev pub kept_block : Tables → Facts → (ℕ → Bool) → ℕ → BlockRecord → BlockRecord
kept_block t F needed p b = ended t F (F.taken p) (control_of t p) record b {
  preds = kept_preds F (edges_to t p) b.preds;
  values = kept_values t F needed (edges_to t p) (offset_of t p) b.values;
}

abbrev pub kept_blocks : Tables → Facts → (ℕ → Bool) → List BlockRecord → List BlockRecord
kept_blocks t F needed bs = picked F.reached (kept_block t F needed) 0 bs

abbrev pub rebuilt : Tables → Facts → (ℕ → Bool) → FuncRecord → FuncRecord
rebuilt t F needed f = record f { blocks = kept_blocks t F needed f.blocks }
