-- What a share is told when it is made, and how its table's words are laid out.
use Rattle.std.specs.Prelude.{ℕ, zero, suc, ◌+◌, List, [], ◌∷◌, take, drop, slice_index}
use Rattle.bk_core.specs.Rule.{cells_of}

-- the keys that are announced in each of the three areas, repeats kept, and the parts of the first pass
pub record Scheme : Type 0 where
  pub announced : List (List ℕ)
  pub parts : ℕ

-- the word at which an area begins: word 0 is the claims word, and the cells of the three areas follow
abbrev pub base : List (List ℕ) → ℕ → ℕ
base announced zero = 1
base announced (suc area) = base announced area + cells_of announced area

-- the word of a cell
abbrev pub cell_word : List (List ℕ) → List ℕ → ℕ → ℕ → ℕ
cell_word announced words area cell = slice_index words (base announced area + cell)

-- the words of one area's cells, and of the three areas
abbrev pub cells_in : List (List ℕ) → List ℕ → ℕ → List ℕ
cells_in announced words area = take (cells_of announced area) (drop (base announced area) words)

abbrev pub areas_in : List (List ℕ) → List ℕ → List (List ℕ)
areas_in announced words = cells_in announced words 0 ∷ cells_in announced words 1 ∷ cells_in announced words 2 ∷ []
