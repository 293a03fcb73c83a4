-- A function by places: its values in list order, and the places that numbers name.
use Rattle.std.specs.Prelude.{◌≡◌, ℕ, ◌+◌, ◌<◌, ◌==◌, ◌⊎◌, List, [], ◌∷◌, ◌++◌, length, map, take, position, count_by, Option, None, Some, option_and_then, slice_get, slice_index_or}
use Rattle.std.specs.Option.{unwrap_or}
use Rattle.bk_func.specs.Records.{ValueRecord, BlockRecord}
use Rattle.std.specs.BTreeMap.{get}
use Rattle.std.specs.Ordering.{nat_cmp}
use Rattle.bk_func.specs.Edits.{nth_place}
use Rattle.bk_graph.specs.declared.graph.Edge.{Edge}
use Rattle.bk_graph.specs.declared.places.Places.{Places}

-- a value with the place of its block
pub record NodeRecord : Type 0 where
  pub block : ℕ
  pub value : ValueRecord

abbrev pub node_at : ℕ → ValueRecord → NodeRecord
node_at i v = record { block = i; value = v }

-- the values of the blocks, of which the first has this place
unfoldable pub nodes_from : ℕ → List BlockRecord → List NodeRecord
nodes_from i [] = []
nodes_from i (b ∷ bs) = map (node_at i) b.values ++ nodes_from (i + 1) bs

-- for each block how many values stand before its own, and last how many there are, so many standing before all
unfoldable pub offsets_from : ℕ → List BlockRecord → List ℕ
offsets_from k [] = k ∷ []
offsets_from k (b ∷ bs) = k ∷ offsets_from (k + length b.values) bs

abbrev pub value_ids : List NodeRecord → List ℕ
value_ids ns = map (λ n. n.value.id) ns

-- the first place of a number; where there is none, one past every list
unfoldable pub or_past : Option ℕ → ℕ
or_past place = unwrap_or place 18446744073709551615

abbrev pub place_in : List ℕ → ℕ → ℕ
place_in ids n = or_past (position (λ x. x == n) ids)

abbrev pub control_in : List ℕ → Option ℕ → Option ℕ
control_in ids control = option_and_then (λ n. position (λ x. x == n) ids) control

-- the same by the map of first places
abbrev pub place_by : Places → ℕ → ℕ
place_by m n = or_past (get nat_cmp m.places n)

abbrev pub control_by : Places → Option ℕ → Option ℕ
control_by m control = option_and_then (λ n. get nat_cmp m.places n) control

-- for each block the places of its successors, for each value those of its arguments, for each block that of its control,
-- by the place that each number has
abbrev pub succ_places : (ℕ → ℕ) → List BlockRecord → List (List ℕ)
succ_places place bs = map (λ b. map place b.succs) bs

abbrev pub arg_places : (ℕ → ℕ) → List NodeRecord → List (List ℕ)
arg_places place ns = map (λ n. map place n.value.args) ns

abbrev pub control_places : (Option ℕ → Option ℕ) → List BlockRecord → List (Option ℕ)
control_places place bs = map (λ b. place b.control) bs

-- edges

-- the place of the successor `to` that so many others stand before; 0 where there is no block
abbrev pub nth_succ : Option BlockRecord → ℕ → ℕ → ℕ
nth_succ None to rank = 0
nth_succ (Some b) to rank = nth_place to rank b.succs

-- the edge from a predecessor's place, these predecessors standing before it: the k-th edge between two blocks has the
-- k-th place among the successors and among the predecessors
abbrev pub edge_from : List BlockRecord → ℕ → List ℕ → ℕ → Edge
edge_from bs to before p = record { from = p; index = nth_succ (slice_get bs p) to (count_by (λ q. q == p) before) }

-- the edges to a block from the predecessors, these others standing before them
unfoldable pub edges_behind : List BlockRecord → ℕ → List ℕ → List ℕ → List Edge
edges_behind bs to before [] = []
edges_behind bs to before (p ∷ ps) = edge_from bs to before p ∷ edges_behind bs to (before ++ p ∷ []) ps

abbrev pub edges_of : (ℕ → ℕ) → List BlockRecord → BlockRecord → List Edge
edges_of place bs b = edges_behind bs b.id [] (map place b.preds)

abbrev pub edge_lists : (ℕ → ℕ) → List BlockRecord → List (List Edge)
edge_lists place bs = map (edges_of place bs) bs

-- each place has the count of its own occurrences among these
pub record AreCounts (ranks ps : List ℕ) : Type 0 where
  pub each : (q : ℕ) → q < length ranks → slice_index_or ranks q 0 ≡ count_by (λ r. r == q) ps

-- each place has the count of its own occurrences among these, or 0 where it is one of the first i
pub record IsCleared (ranks ps : List ℕ) (i : ℕ) : Type 0 where
  pub each : (q : ℕ) → q < length ranks
      → (slice_index_or ranks q 0 ≡ 0) ⊎ ((count_by (λ r. r == q) (take i ps) ≡ 0) × (slice_index_or ranks q 0 ≡ count_by (λ r. r == q) ps))
