-- Blocks and values by their numbers.
use Rattle.std.specs.Prelude.{◌≡◌, ℕ, ◌==◌, List, map, position}
use Rattle.std.specs.BTreeMap.{get}
use Rattle.std.specs.Ordering.{nat_cmp}
use Rattle.bk_func.specs.Records.{BlockRecord}
use Rattle.bk_graph.specs.declared.places.Places.{Places}

abbrev pub block_ids : List BlockRecord → List ℕ
block_ids bs = map (λ b. b.id) bs

-- the map has the first place of each number of the list
abbrev pub AreFirsts : List ℕ → Places → Type 0
AreFirsts ns m = (n : ℕ) → get nat_cmp m.places n ≡ position (λ x. x == n) ns
