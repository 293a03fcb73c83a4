-- What the workers of a share have and know, and the rule that a share keeps.
-- A share has a counter, the claims word, and three areas of cells. Each area is announced with a list of keys, and a cell is 0 or holds one of them.
use Rattle.std.specs.Prelude.{◌≡◌, ◌≢◌, ℕ, ◌+◌, ◌%◌, ◌^◌, ◌<◌, ◌≤◌, ◌==◌, nat_lt, if◌then◌else◌, List, [], length, sum_by, count_by, slice_index_or}
use Rattle.std.specs.List.{Contains}

-- a worker's parts, the numbers that it drew, and its known pairs: an area, a cell and the word that was seen in it
pub record Sight : Type 0 where
  pub parts : ℕ
  pub numbers : List ℕ
  pub known : List (ℕ × ℕ × ℕ)

abbrev pub sight : ℕ → List ℕ → List (ℕ × ℕ × ℕ) → Sight
sight parts numbers known = record { parts = parts; numbers = numbers; known = known }

-- a worker with nothing
abbrev pub nobody : Sight
nobody = sight 0 [] []

-- the worker w, or one with nothing where there is none
abbrev pub worker : List Sight → ℕ → Sight
worker workers w = slice_index_or workers w nobody

-- the keys that are announced in the area
abbrev pub keys_of : List (List ℕ) → ℕ → List ℕ
keys_of announced area = slice_index_or announced area []

-- how many cells the area has: one more than its keys, repeats counted
abbrev pub cells_of : List (List ℕ) → ℕ → ℕ
cells_of announced area = length (keys_of announced area) + 1

-- the cell that is so many steps along the key's walk, which goes upwards from `key mod cells`, round the end
abbrev pub walk : ℕ → ℕ → ℕ → ℕ
walk cells key steps = (key % cells + steps) % cells

-- how often x is among the numbers below n: once or never
abbrev pub once_below : ℕ → ℕ → ℕ
once_below x n = if nat_lt x n then 1 else 0

-- how many numbers all workers drew, and how often x is among them
abbrev pub drawn : List Sight → ℕ
drawn workers = sum_by (λ v. length v.numbers) workers

abbrev pub times_drawn : ℕ → List Sight → ℕ
times_drawn x workers = sum_by (λ v. count_by (λ y. y == x) v.numbers) workers

-- the claims word counts the drawn numbers modulo 2^64; up to 2^64 of them are the numbers below their count, each once;
-- the parts add up to those at the start, and a worker without parts has no numbers and no known pairs
pub record IsCounted (parts claims : ℕ) (workers : List Sight) : Type 0 where
  pub counts : claims ≡ drawn workers % 2 ^ 64
  pub each_once : drawn workers ≤ 2 ^ 64 → (x : ℕ) → times_drawn x workers ≡ once_below x (drawn workers)
  pub parts_add : sum_by (λ v. v.parts) workers ≡ parts
  pub idle : (w : ℕ) → (worker workers w).parts ≡ 0 → ((worker workers w).numbers ≡ []) × ((worker workers w).known ≡ [])

-- of the cell c, which holds the key k: k is announced, its walk comes to c, and each earlier cell of the walk is full
pub record IsPlaced (keys : List ℕ) (at : ℕ → ℕ) (k c : ℕ) : Type 0 where
  pub announced : Contains keys k
  pub steps : ℕ
  pub short : steps < length keys + 1
  pub there : walk (length keys + 1) k steps ≡ c
  pub full : (j : ℕ) → j < steps → at (walk (length keys + 1) k j) ≢ 0

-- one area, `at` being the word of each cell: each full cell holds a key in its place, and no two hold one key
pub record IsFilled (keys : List ℕ) (at : ℕ → ℕ) : Type 0 where
  pub held : (c : ℕ) → c < length keys + 1 → at c ≢ 0 → IsPlaced keys at (at c) c
  pub alone : (c d : ℕ) → c < length keys + 1 → d < length keys + 1 → at c ≢ 0 → at d ≡ at c → d ≡ c

-- a known pair names a cell that there is, and its word is not 0 and is what the cell holds
pub record IsCorrect (announced : List (List ℕ)) (at : ℕ → ℕ → ℕ) (pair : ℕ × ℕ × ℕ) : Type 0 where
  pub area : pair.0 < 3
  pub cell : pair.1 < cells_of announced pair.0
  pub full : pair.2 ≢ 0
  pub is : at pair.0 pair.1 ≡ pair.2

-- the rule, `at` being the word of each cell of each area
pub record Rule (announced : List (List ℕ)) (parts claims : ℕ) (at : ℕ → ℕ → ℕ) (workers : List Sight) : Type 0 where
  pub counted : IsCounted parts claims workers
  pub filled : (a : ℕ) → a < 3 → IsFilled (keys_of announced a) (at a)
  pub right : (w : ℕ) (pair : ℕ × ℕ × ℕ) → Contains (worker workers w).known pair → IsCorrect announced at pair
