-- The order in which workers claim functions.
use Rattle.std.specs.Prelude.{◌≡◌, ◌≤◌, ◌+◌, ℕ, List, [], ◌∷◌, length, map}
use Rattle.std.specs.List.{AllAdjacentBelow}
use Rattle.std.specs.List.Sorted.{IsPermutation}
use Rattle.std.specs.declared.cmp.Reverse.{Reverse}
use Rattle.bk_func.specs.Records.{FuncRecord}

-- a function's count of values, by which order falls, and its place
abbrev pub Ranked : Type 0
Ranked = Reverse ℕ × ℕ

abbrev pub ranked : ℕ → ℕ → Ranked
ranked given place = (record { 0 = given }, place)

abbrev pub given_of : Ranked → ℕ
given_of r = r.0.0

abbrev pub place_of : Ranked → ℕ
place_of r = r.1

-- the functions with their places, the first standing at place k
abbrev pub ranked_from : ℕ → List FuncRecord → List Ranked
ranked_from k [] = []
ranked_from k (f ∷ fs) = ranked f.given k ∷ ranked_from (k + 1) fs

-- the first is as long as the second or longer, and of equal ones its place is the lower
pub record Precedes (a b : Ranked) : Type 0 where
  pub longer : given_of b ≤ given_of a
  pub ties : given_of a ≡ given_of b → place_of a ≤ place_of b

-- the places of the functions in an order in which each precedes the next
pub record IsClaimOrder (fs : List FuncRecord) (order : List ℕ) : Type 0 where
  pub sorted : List Ranked
  pub same : IsPermutation (ranked_from 0 fs) sorted
  pub falling : AllAdjacentBelow Precedes sorted (length sorted)
  pub places : order ≡ map place_of sorted
