-- Rows of live values for the places of blocks.
use Rattle.std.specs.Prelude.{◌≡◌, ℕ, ◌<◌, ◌≤◌, ◌==◌, ◌++◌, List, [], ◌∷◌, length, map, Option, None, Some, slice_index_or, slice_set}
use Rattle.std.specs.List.{AllPairs, Contains, find}
use Rattle.std.specs.Option.{option_map}
use Rattle.bk_live.specs.declared.rows.LiveValue.{LiveValue}
use Rattle.bk_live.specs.declared.search.Search.{Search}
use Rattle.bk_live.specs.Search.{distance}

abbrev pub live_value : ℕ → ℕ → LiveValue
live_value n d = record { value = n; distance = d }

-- the row of a place, by rising numbers
abbrev pub IsRising : List LiveValue → Type 0
IsRising row = AllPairs (λ k l. k.value < l.value) row

abbrev pub AreRising : List (List LiveValue) → Type 0
AreRising rows = (i : ℕ) → IsRising (slice_index_or rows i [])

-- the row has the value at the distance d or less
abbrev pub HasLiveUpTo : List LiveValue → ℕ → ℕ → Type 0
HasLiveUpTo row n d = (e : ℕ) × Contains row (live_value n e) × e ≤ d

-- the row of the place has the value at its end, if it has a distance there
abbrev pub with_live : List (List LiveValue) → ℕ → ℕ → Option ℕ → List (List LiveValue)
with_live rows i n None = rows
with_live rows i n (Some d) = slice_set rows i (slice_index_or rows i [] ++ live_value n d ∷ [])

-- the rows of all places that the search has reached have it
pub record AddsFound (n : ℕ) (s : Search) (rows more : List (List LiveValue)) : Type 0 where
  pub size : length more ≡ length rows
  pub same : (i : ℕ) → distance s i ≡ None → slice_index_or more i [] ≡ slice_index_or rows i []
  pub longer : (i d : ℕ) → i < length rows → distance s i ≡ Some d → slice_index_or more i [] ≡ slice_index_or rows i [] ++ live_value n d ∷ []

-- the rows have the numbers of the list at the least distances that F says, by rising numbers
pub record HasRows (F : ℕ → ℕ → ℕ → Type 0) (count : ℕ) (ns : List ℕ) (rows : List (List LiveValue)) : Type 0 where
  pub size : length rows ≡ count
  pub sound : (i : ℕ) (l : LiveValue) → i < count → Contains (slice_index_or rows i []) l → Contains ns l.value × F l.value i l.distance
  pub least : (i n d : ℕ) → i < count → Contains ns n → F n i d → HasLiveUpTo (slice_index_or rows i []) n d
  pub rising : AreRising rows

-- the element at the place has the number
abbrev pub StandsIn : List LiveValue → ℕ → ℕ → Type 0
StandsIn row n i = i < length row × ((l : LiveValue) → (slice_index_or row i l).value ≡ n)

-- no element has it
abbrev pub HasNot : List LiveValue → ℕ → Type 0
HasNot row n = (l : LiveValue) → Contains row l → ¬ (l.value ≡ n)

-- the distance of a number in a row, if it is there
abbrev pub distance_in : List LiveValue → ℕ → Option ℕ
distance_in row n = option_map (λ l. l.distance) (find (λ l. l.value == n) row)

abbrev pub values_of : List LiveValue → List ℕ
values_of row = map (λ l. l.value) row
