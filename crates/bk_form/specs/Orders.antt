-- Which values come before which, by places.
use Rattle.std.specs.Prelude.{◌≡◌, ℕ, ◌<◌, ◌≤◌, List, length, Some, slice_index}
use Rattle.std.specs.List.{slice_get}
use Rattle.bk_func.specs.Records.{ValueRecord, BlockRecord, FuncRecord}
use Rattle.bk_func.specs.Form.Before.{ComesBefore, Precedes}
use Rattle.bk_places.specs.Search.{Leads}
use Rattle.bk_places.specs.Search.{IsEdge}
use Rattle.bk_form.specs.Places.{NodeRecord, node_at, nodes_of}

-- edges lead from the places of values to those of the values that they come before, and to no others; past the
-- places of values there may be others, at which edges meet
pub record IsOrder (f : FuncRecord) (es : List (List ℕ)) : Type 0 where
  pub size : length (nodes_of f) ≤ length es
  pub sound : (p q i : ℕ) (b : BlockRecord) (u : ValueRecord) (o : NodeRecord) → slice_get f.blocks i ≡ Some b → slice_get (nodes_of f) p ≡ Some (node_at i u)
      → slice_get (nodes_of f) q ≡ Some o → Leads es p q → Precedes f b u o.value
  pub whole : (p q i : ℕ) (b : BlockRecord) (u v : ValueRecord) → slice_get f.blocks i ≡ Some b → slice_get (nodes_of f) p ≡ Some (node_at i u)
      → slice_get (nodes_of f) q ≡ Some (node_at i v) → ComesBefore f b u v → Leads es p q

-- an edge to a place with a rank, which is not 0, leads from one with a lower rank
abbrev pub RisesTo : List ℕ → ℕ → ℕ → Type 0
RisesTo ranks p q = 0 < slice_index ranks q → (0 < slice_index ranks p × slice_index ranks p < slice_index ranks q)

abbrev pub Settles : List (List ℕ) → List ℕ → Type 0
Settles es ranks = (p q : ℕ) → IsEdge es p q → RisesTo ranks p q
