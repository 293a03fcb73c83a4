-- Edges between the numbers of blocks, as lists.
use Rattle.std.specs.Prelude.{ℕ, ◌==◌, ◌&&◌, ◌||◌, not, Bool, List, map, count_by, unwrap_or}
use Rattle.std.specs.List.{flat_map, list_any}
use Rattle.std.specs.BTreeMap.{get, BTreeMap}
use Rattle.std.specs.Ordering.{nat_cmp, ordering_then}
use Rattle.std.specs.declared.cmp.Ordering.{Ordering}
use Rattle.bk_func.specs.Records.{BlockRecord, FuncRecord}

abbrev pub edges_from : BlockRecord → List (ℕ × ℕ)
edges_from b = map (λ s. (b.id, s)) b.succs

abbrev pub edges_to : BlockRecord → List (ℕ × ℕ)
edges_to b = map (λ p. (p, b.id)) b.preds

-- the edges by the successors of blocks, and by their predecessors
abbrev pub all_from : FuncRecord → List (ℕ × ℕ)
all_from f = flat_map edges_from f.blocks

abbrev pub all_to : FuncRecord → List (ℕ × ℕ)
all_to f = flat_map edges_to f.blocks

abbrev pub edge_cmp : ℕ × ℕ → ℕ × ℕ → Ordering
edge_cmp e g = ordering_then (nat_cmp e.0 g.0) (nat_cmp e.1 g.1)

abbrev pub same_edge : ℕ × ℕ → ℕ × ℕ → Bool
same_edge e g = (g.0 == e.0) && (g.1 == e.1)

-- how many times the edge is listed
unfoldable pub times : List (ℕ × ℕ) → ℕ × ℕ → ℕ
times es e = count_by (same_edge e) es

-- how many times the map counts it
abbrev pub count_in : BTreeMap (ℕ × ℕ) ℕ → ℕ × ℕ → ℕ
count_in m e = unwrap_or (get edge_cmp m e) 0

-- the edge begins or ends at the block
abbrev pub touches : ℕ → ℕ × ℕ → Bool
touches id e = (e.0 == id) || (e.1 == id)

-- and does not stand as often on both sides
abbrev pub tears : (ℕ × ℕ → ℕ) → (ℕ × ℕ → ℕ) → ℕ → ℕ × ℕ → Bool
tears from to id e = not (from e == to e) && touches id e

-- some edge of the block is torn
abbrev pub is_torn : List (ℕ × ℕ) → List (ℕ × ℕ) → ℕ → Bool
is_torn from to id = list_any (tears (times from) (times to) id) from || list_any (tears (times from) (times to) id) to
