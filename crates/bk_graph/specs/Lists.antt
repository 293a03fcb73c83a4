-- Items of lists by their places.
use Rattle.std.specs.Prelude.{ℕ, ◌+◌, Bool, if◌then◌else◌, List, [], ◌∷◌}

-- what is made of the items at the places that pass the test, the first item having this place
unfoldable pub picked : {A B : Type 0} → (ℕ → Bool) → (ℕ → A → B) → ℕ → List A → List B
picked test made k [] = []
picked test made k (x ∷ xs) = if test k then made k x ∷ picked test made (k + 1) xs else picked test made (k + 1) xs
