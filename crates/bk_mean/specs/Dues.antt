-- When the values of a block are due, and what they take, as the code has them.
use Rattle.std.specs.Prelude.{◌≡◌, ℕ, ◌<◌, ◌↔◌, ◌⊎◌, Bool, true, List, [], length, slice_get, slice_index, get_or, Option, Some, None}
use Rattle.std.specs.List.{Contains}
use Rattle.std.specs.Ordering.{nat_cmp, ordering_then}
use Rattle.std.specs.declared.cmp.Ordering.{Ordering}
use Rattle.std.specs.BTreeSet.{BTreeSet, contains}
use Rattle.bk_mean.specs.declared.arrange.Due.{Due}
use Rattle.bk_mean.specs.Arranged as meant

abbrev pub seen_due : Due → meant.Due
seen_due d = record { level = d.level; class = d.class; place = d.place }

abbrev pub coded_due : meant.Due → Due
coded_due d = record { level = d.level; class = d.class; place = d.place }

abbrev pub seen_at : Option (Option Due) → Option meant.Due
seen_at None = None
seen_at (Some None) = None
seen_at (Some (Some d)) = Some (seen_due d)

-- when the place is due
abbrev pub due_in : List (Option Due) → ℕ → Option meant.Due
due_in dues k = seen_at (slice_get dues k)

-- by level, by class and by place
abbrev pub due_cmp : Due → Due → Ordering
due_cmp a b = ordering_then (nat_cmp a.level b.level) (ordering_then (nat_cmp a.class b.class) (nat_cmp a.place b.place))

abbrev pub has_due : BTreeSet Due → meant.Due → Bool
has_due free d = contains due_cmp free (coded_due d)

abbrev pub AllDue : List (Option Due) → Type 0
AllDue dues = (k : ℕ) → k < length dues → (d : meant.Due) × (due_in dues k ≡ Some d)

-- the due of a place says the place
pub record DuesOfPlaces (dues : List (Option Due)) : Type 0 where
  pub own : (k : ℕ) (d : meant.Due) → due_in dues k ≡ Some d → d.place ≡ k

-- what the place takes
abbrev pub taken_in : List (List ℕ) → ℕ → List ℕ
taken_in takes x = get_or takes x []

abbrev pub FallsBy : (ℕ → ℕ) → List (List ℕ) → Type 0
FallsBy r takes = (x y : ℕ) → Contains (taken_in takes x) y → r y < r x

-- values take others of so many
pub record StaysWithin (n : ℕ) (takes : List (List ℕ)) : Type 0 where
  pub within : (x y : ℕ) → Contains (taken_in takes x) y → y < n

-- those of the first so many places that are free
pub record AreFree (dues : List (Option Due)) (uses : List ℕ) (n : ℕ) (free : BTreeSet Due) : Type 0 where
  pub each : (d : meant.Due) → (has_due free d ≡ true) ↔ ((d.place < n) × (due_in dues d.place ≡ Some d) × (slice_index uses d.place ≡ 0))

-- the set has what it had, and when those of the places are due that are free now
pub record Released (dues : List (Option Due)) (ts uses : List ℕ) (old new : BTreeSet Due) : Type 0 where
  pub each : (d : meant.Due) → (has_due new d ≡ true) ↔ ((has_due old d ≡ true) ⊎ (Contains ts d.place × (due_in dues d.place ≡ Some d) × (slice_index uses d.place ≡ 0)))
