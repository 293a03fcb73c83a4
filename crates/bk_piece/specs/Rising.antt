-- Numbers in rising order.
use Rattle.std.specs.Prelude.{ℕ, ◌<◌, ◌==◌, nat_lt, if◌then◌else◌, List, [], ◌∷◌, filter}
use Rattle.std.specs.List.{AllPairs}

-- a number put among rising ones, where it does not stand there yet
abbrev pub put : ℕ → List ℕ → List ℕ
put x [] = x ∷ []
put x (y ∷ ys) = if nat_lt x y then x ∷ (y ∷ ys) else (if x == y then y ∷ ys else y ∷ put x ys)

-- the numbers in rising order, each once
unfoldable pub rising : List ℕ → List ℕ
rising [] = []
rising (x ∷ xs) = put x (rising xs)

-- each number is below all later ones
abbrev pub Rise : List ℕ → Type 0
Rise xs = AllPairs (λ x y. x < y) xs

-- the words of cells that hold a key, and their keys in rising order
abbrev pub full : List ℕ → List ℕ
full words = filter (λ w. nat_lt 0 w) words

abbrev pub keys_in : List ℕ → List ℕ
keys_in words = rising (full words)
