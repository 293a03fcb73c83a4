-- Edges between the places of blocks.
use Rattle.std.specs.Prelude.{◌≡◌, ◌↔◌, ℕ, ◌<◌, List, [], length, Option, Some, slice_index_or}
use Rattle.std.specs.List.{Contains, filter_map, slice_get}
use Rattle.bk_func.specs.Records.{BlockRecord}
use Rattle.bk_live.specs.Adds.{Adds}

abbrev pub IsEdge : List (List ℕ) → ℕ → ℕ → Type 0
IsEdge es p q = Contains (slice_index_or es p []) q

abbrev pub edge_in : List (List ℕ) → ℕ × ℕ → Type 0
edge_in es e = IsEdge es e.0 e.1

-- the edges have what R says more than they had, from places that are there
pub record AddsEdges (R : ℕ × ℕ → Type 0) (es gs : List (List ℕ)) : Type 0 where
  pub size : length gs ≡ length es
  pub adds : Adds (edge_in es) (λ e. e.0 < length es × R e) (edge_in gs)

-- one of the numbers is that of the block at p
abbrev pub IsNamed : (ℕ → Option ℕ) → List ℕ → ℕ → Type 0
IsNamed m ns p = (n : ℕ) × Contains ns n × (m n ≡ Some p)

-- the block at q has a successor at p
abbrev pub LeadsFrom : List BlockRecord → (ℕ → Option ℕ) → ℕ → ℕ → Type 0
LeadsFrom bs m p q = (b : BlockRecord) × (slice_get bs q ≡ Some b) × IsNamed m b.succs p

-- edges from blocks to their predecessors
pub record AreBackward (bs : List BlockRecord) (m : ℕ → Option ℕ) (es : List (List ℕ)) : Type 0 where
  pub size : length es ≡ length bs
  pub edge : (p q : ℕ) → IsEdge es p q ↔ (p < length bs × LeadsFrom bs m p q)

-- the places of the block's successors
abbrev pub onward : (ℕ → Option ℕ) → BlockRecord → List ℕ
onward m b = filter_map m b.succs
