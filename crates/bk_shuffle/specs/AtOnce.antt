-- What moves do to what the places hold.
use Rattle.std.specs.Prelude.{◌≡◌, ℕ, ◌==◌, if◌then◌else◌, List, [], ◌∷◌, map, Bool, Option, Some, None}
use Rattle.std.specs.List.{find}
use Rattle.bk_func.specs.declared.parts.Loc.{Loc}
use Rattle.bk_func.specs.declared.parts.Loc.TheVariants.{Swap}
use Rattle.bk_shuffle.specs.Sequence.{Move, place_of}

-- the place holds n, and every other what it held
abbrev pub holding : (Loc → ℕ) → Loc → ℕ → Loc → ℕ
holding s to n l = if place_of l == place_of to then n else s l

-- what the places hold after moves that are done one after the other
abbrev pub after_each : List Move → (Loc → ℕ) → Loc → ℕ
after_each [] s = s
after_each (m ∷ ms) s = after_each ms (holding s m.1 (s m.0))

-- the move goes to the place
abbrev pub goes_to : ℕ → Move → Bool
goes_to p m = place_of m.1 == p

-- what a place holds to which this move, or none, goes
abbrev pub held_by : (Loc → ℕ) → Loc → Option Move → ℕ
held_by s l None = s l
held_by s l (Some m) = s m.0

-- what the places hold after moves that are done at once: a destination what its source held before, every other what it held
abbrev pub after_all : List Move → (Loc → ℕ) → Loc → ℕ
after_all ms s l = held_by s l (find (goes_to (place_of l)) ms)

-- the places to which moves go
abbrev pub destinations : List Move → List ℕ
destinations ms = map (λ m. place_of m.1) ms

-- the move takes from another place than the swap word
abbrev pub TakesFromAPlace : Move → Type 0
TakesFromAPlace m = ¬ (place_of m.0 ≡ place_of Swap)

-- the pairs, done one after the other, do the moves at once, but for the swap word
abbrev pub DoAll : List Move → List Move → Type 0
DoAll ms pairs = (s : Loc → ℕ) (l : Loc) → ¬ (place_of l ≡ place_of Swap) → after_each pairs s l ≡ after_all ms s l
