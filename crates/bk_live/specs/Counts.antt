-- How many scheduled places stand before the entries of orders.
use Rattle.std.specs.Prelude.{◌≡◌, ℕ, ◌+◌, ◌-◌, ◌<◌, ◌≤◌, List, [], length, take, Option, Some, slice_index_or}
use Rattle.std.specs.List.{slice_get, sum_by}
use Rattle.std.specs.Option.{option_and_then}
use Rattle.bk_func.specs.Records.{FuncRecord}
use Rattle.bk_live.specs.Live.{cost, order_at}

-- how many of the first k entries are no phis
abbrev pub cost_of : FuncRecord → List ℕ → ℕ → ℕ
cost_of f order k = sum_by (cost f) (take k order)

-- the row has the count of each front of the order
pub record IsCounted (f : FuncRecord) (order row : List ℕ) : Type 0 where
  pub size : length row ≡ length order + 1
  pub each : (k : ℕ) → k ≤ length order → slice_get row k ≡ Some (cost_of f order k)

pub record AreCounts (f : FuncRecord) (os rows : List (List ℕ)) : Type 0 where
  pub size : length rows ≡ length os
  pub each : (i : ℕ) → i < length os → IsCounted f (order_at os i) (slice_index_or rows i [])

abbrev pub count_at : List (List ℕ) → ℕ → ℕ → Option ℕ
count_at rows i k = option_and_then (λ row. slice_get row k) (slice_get rows i)

-- the last count of a row
abbrev pub last_of : List ℕ → ℕ
last_of row = slice_index_or row (length row - 1) 0

abbrev pub total_at : List (List ℕ) → ℕ → ℕ
total_at rows i = last_of (slice_index_or rows i [])

-- the place behind is counted
abbrev pub steps_between : ℕ → ℕ → ℕ
steps_between before behind = (behind - before) + 1

-- how far it is through a block with these counts, its end counted
abbrev pub length_of : List ℕ → ℕ
length_of row = steps_between 0 (last_of row)
