-- Critical edges: from a block with several successors to one with several predecessors.
use Rattle.std.specs.Prelude.{ℕ, Bool, false, nat_lt, ◌+◌, ◌==◌, if◌then◌else◌, List, [], ◌∷◌, length, Option, None, Some}
use Rattle.std.specs.List.{find, flat_map, Contains}
use Rattle.bk_func.specs.Records.{BlockRecord, FuncRecord}
use Rattle.bk_func.specs.Edits.{split, IsEdge}

abbrev pub has_several : Option BlockRecord → Bool
has_several None = false
has_several (Some b) = nat_lt 1 (length b.preds)

-- an edge: the number of the block that it leaves, and its place among that block's successors
pub record EdgeRecord : Type 0 where
  pub from : ℕ
  pub index : ℕ

abbrev pub edge_at : ℕ → ℕ → EdgeRecord
edge_at from index = record { from = from; index = index }

-- the edges to blocks with several predecessors among these, the first of which has this place
abbrev pub edges_from : List BlockRecord → ℕ → ℕ → List ℕ → List EdgeRecord
edges_from bs from index [] = []
edges_from bs from index (n ∷ ns) =
    if has_several (find (λ b. b.id == n) bs) then edge_at from index ∷ edges_from bs from (index + 1) ns else edges_from bs from (index + 1) ns

-- the critical edges of a block, in successor order
abbrev pub critical_in : List BlockRecord → BlockRecord → List EdgeRecord
critical_in bs b = if nat_lt 1 (length b.succs) then edges_from bs b.id 0 b.succs else []

-- those of a function, in block and successor order
abbrev pub critical_edges : FuncRecord → List EdgeRecord
critical_edges f = flat_map (critical_in f.blocks) f.blocks

-- the edges are there
abbrev pub AreEdges : FuncRecord → List EdgeRecord → Type 0
AreEdges f es = (e : EdgeRecord) → Contains es e → IsEdge f e.from e.index

-- the function with an empty block on each of these edges, one after the other
unfoldable pub split_each : FuncRecord → List EdgeRecord → FuncRecord
split_each f [] = f
split_each f (e ∷ es) = split_each (split f e.from e.index) es

abbrev pub without_critical : FuncRecord → FuncRecord
without_critical f = split_each f (critical_edges f)
