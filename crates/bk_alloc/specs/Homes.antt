-- Values that are gathered in a set.
use Rattle.std.specs.Prelude.{◌≡◌, ℕ, ◌==◌, ◌||◌, List}
use Rattle.std.specs.BTreeSet.{BTreeSet, contains}
use Rattle.std.specs.List.{list_any}
use Rattle.std.specs.Ordering.{nat_cmp}

-- these are added to the set
abbrev pub Gathers : BTreeSet ℕ → BTreeSet ℕ → List ℕ → Type 0
Gathers old new xs = (q : ℕ) → contains nat_cmp new q ≡ (contains nat_cmp old q || list_any (λ x. q == x) xs)
