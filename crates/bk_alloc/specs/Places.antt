-- The first places of numbers in a list.
use Rattle.std.specs.Prelude.{◌≡◌, ℕ, ◌==◌, if◌then◌else◌, List, position, None, Some}
use Rattle.std.specs.BTreeMap.{BTreeMap, get}
use Rattle.std.specs.Option.{option_or}
use Rattle.std.specs.Ordering.{nat_cmp}

-- for each number the first place at which an element has it
abbrev pub AreFirst : {X : Type 0} → (X → ℕ) → List X → BTreeMap ℕ ℕ → Type 0
AreFirst number xs places = (n : ℕ) → get nat_cmp places n ≡ position (λ x. number x == n) xs

-- the place is noted under the number, unless there is one
abbrev pub Notes : BTreeMap ℕ ℕ → BTreeMap ℕ ℕ → ℕ → ℕ → Type 0
Notes old new number place = (n : ℕ) → get nat_cmp new n ≡ option_or (get nat_cmp old n) (if number == n then Some place else None)
