-- The least distances along edges.
use Rattle.std.specs.Prelude.{◌≡◌, ◌≢◌, ◌↔◌, ℕ, ◌+◌, ◌<◌, ◌≤◌, ◌==◌, if◌then◌else◌, List, [], ◌∷◌, ◌++◌, length, replicate, Option, None, Some, slice_index_or, ◌⊎◌}
use Rattle.std.specs.List.{AllPairs, Contains}
use Rattle.std.specs.BinaryHeap.{heap_items}
use Rattle.std.specs.declared.cmp.Reverse.{Reverse}
use Rattle.bk_live.specs.declared.search.Search.{Search}
use Rattle.bk_live.specs.declared.search.Start.{Start}
use Rattle.bk_live.specs.Edges.{IsEdge}

-- the length of a place that edges lead to
abbrev pub length_at : List ℕ → ℕ → ℕ → Option ℕ
length_at ws avoided q = if q == avoided then None else Some (slice_index_or ws q 0)

-- edges lead from a start to the place, the distance of the start and the lengths of the places on the way being d
pub data Found (es : List (List ℕ)) (ws : List ℕ) (avoided : ℕ) (starts : List Start) : ℕ → ℕ → Type 0 where
  from : (s : Start) → Contains starts s → s.place < length es → Found es ws avoided starts s.place s.distance
  onward : (p q d w : ℕ) → Found es ws avoided starts p d → IsEdge es p q → q < length es → length_at ws avoided q ≡ Some w
      → Found es ws avoided starts q (d + w)

-- the place has a distance, d or less
abbrev pub HasUpTo : List (Option ℕ) → ℕ → ℕ → Type 0
HasUpTo ls p d = (e : ℕ) × (slice_index_or ls p None ≡ Some e) × e ≤ d

-- the places with a distance are listed once each
pub record Marks (ls : List (Option ℕ)) (xs : List ℕ) : Type 0 where
  pub listed : (p : ℕ) → Contains xs p ↔ ((d : ℕ) × (slice_index_or ls p None ≡ Some d))
  pub apart : AllPairs (λ p q. p ≢ q) xs

-- the list of these where the place gets one
abbrev pub more_listed : Option ℕ → List ℕ → ℕ → List ℕ
more_listed None xs place = xs ++ place ∷ []
more_listed (Some d) xs place = xs

-- distances get smaller; each new one is such as R says, and waits in the queue
pub record Moves (R : ℕ → ℕ → Type 0) (ls : List (Option ℕ)) (P : ℕ → ℕ → Type 0) (ms : List (Option ℕ)) (Q : ℕ → ℕ → Type 0) : Type 0 where
  pub size : length ms ≡ length ls
  pub lower : (p d : ℕ) → slice_index_or ls p None ≡ Some d → HasUpTo ms p d
  pub fresh : (p d : ℕ) → slice_index_or ms p None ≡ Some d → (slice_index_or ls p None ≡ Some d) ⊎ (Q p d × R p d)
  pub queued : (p d : ℕ) → P p d → Q p d

-- from a place with the distance, the place q is reached at d
abbrev pub Reaches : List ℕ → ℕ → ℕ → ℕ → ℕ → Type 0
Reaches ws avoided distance q d = (w : ℕ) × (length_at ws avoided q ≡ Some w) × (d ≡ distance + w)

-- all that edges lead to from a place with the distance d has its distance
abbrev pub Left : List (List ℕ) → List ℕ → ℕ → List (Option ℕ) → ℕ → ℕ → Type 0
Left es ws avoided ls p d = (q w : ℕ) → IsEdge es p q → q < length es → length_at ws avoided q ≡ Some w → HasUpTo ls q (d + w)

-- a search on its way: places with a distance wait in the queue, or are left
pub record Spreading (es : List (List ℕ)) (ws : List ℕ) (avoided : ℕ) (starts : List Start) (ls : List (Option ℕ)) (xs : List ℕ) (Q : ℕ → ℕ → Type 0) : Type 0 where
  pub size : length ls ≡ length es
  pub marks : Marks ls xs
  pub sound : (p d : ℕ) → slice_index_or ls p None ≡ Some d → Found es ws avoided starts p d
  pub begun : (s : Start) → Contains starts s → s.place < length es → HasUpTo ls s.place s.distance
  pub settled : (p d : ℕ) → slice_index_or ls p None ≡ Some d → Q p d ⊎ Left es ws avoided ls p d

-- the place waits with the distance
abbrev pub WaitsIn : List (Reverse (ℕ × ℕ)) → ℕ → ℕ → Type 0
WaitsIn xs p d = (x : Reverse (ℕ × ℕ)) × Contains xs x × (x.0 ≡ (d, p))

abbrev pub Waits : Search → ℕ → ℕ → Type 0
Waits s p d = WaitsIn (heap_items s.queue) p d

abbrev pub distance : Search → ℕ → Option ℕ
distance s p = slice_index_or s.distances.items p None

-- nothing is reached
pub record IsClear (n : ℕ) (s : Search) : Type 0 where
  pub distances : s.distances.items ≡ replicate n None
  pub reached : s.reached.items ≡ []
  pub queue : heap_items s.queue ≡ []

-- a search that has ended
pub record IsReady (n : ℕ) (s : Search) : Type 0 where
  pub size : length s.distances.items ≡ n
  pub marks : Marks s.distances.items s.reached.items
  pub queue : heap_items s.queue ≡ []

-- each place has its least distance by F
pub record Finds (F : ℕ → ℕ → Type 0) (n : ℕ) (s : Search) : Type 0 where
  pub size : length s.distances.items ≡ n
  pub marks : Marks s.distances.items s.reached.items
  pub sound : (p d : ℕ) → distance s p ≡ Some d → F p d
  pub least : (p d : ℕ) → F p d → HasUpTo s.distances.items p d
  pub queue : heap_items s.queue ≡ []
