-- How often lists have a place.
use Rattle.std.specs.Prelude.{ℕ, ◌==◌, List, count_by, sum_by}

abbrev pub count_in : ℕ → List ℕ → ℕ
count_in p ps = count_by (λ q. q == p) ps

abbrev pub total_in : List (List ℕ) → ℕ → ℕ
total_in es p = sum_by (λ ps. count_in p ps) es
