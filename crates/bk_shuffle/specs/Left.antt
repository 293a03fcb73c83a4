-- What is known of the moves that are left, as the code has it.
use Rattle.std.specs.Prelude.{◌≡◌, ℕ, ◌≤◌, true, if◌then◌else◌, ◌↔◌, count_by, Option, Some, None, IsSome}
use Rattle.std.specs.List.{AllByRecursion}
use Rattle.std.specs.Map.{count_at}
use Rattle.std.specs.Ordering.{nat_cmp}
use Rattle.std.specs.BTreeMap.{BTreeMap, IsOrdered, get, values}
use Rattle.std.specs.BTreeSet.{BTreeSet, contains}
use Rattle.bk_func.specs.declared.parts.Loc.TheVariants.{Swap}
use Rattle.bk_shuffle.specs.Sequence.{Move, place_of, takes_from, next}

-- the move goes to another place than the swap word
abbrev pub GoesToAPlace : Move → Type 0
GoesToAPlace m = ¬ (place_of m.1 ≡ place_of Swap)

-- the move stands under the place of its destination
abbrev pub IsAtItsPlace : ℕ × Move → Type 0
IsAtItsPlace e = (place_of e.1.1 ≡ e.0) × ¬ (e.0 ≡ place_of Swap)

pub record AreLeft (left : BTreeMap ℕ Move) : Type 0 where
  pub ordered : IsOrdered nat_cmp left
  pub placed : AllByRecursion IsAtItsPlace left.entries

-- how many of the moves take from the place to another, and whether the move m does
abbrev pub takers : BTreeMap ℕ Move → ℕ → ℕ
takers left p = count_by (takes_from p) (values left)

abbrev pub taker : Move → ℕ → ℕ
taker m p = if takes_from p m then 1 else 0

-- so many moves take from each place but the swap word
pub record AreCounts (counts : BTreeMap ℕ ℕ) (n : ℕ → ℕ) : Type 0 where
  pub each : (p : ℕ) → ¬ (p ≡ place_of Swap) → count_at (get nat_cmp counts) p ≡ n p

-- the destinations of which the count is 0
pub record AreFree (free : BTreeSet ℕ) (left : BTreeMap ℕ Move) (n : ℕ → ℕ) : Type 0 where
  pub each : (p : ℕ) → (contains nat_cmp free p ≡ true) ↔ (IsSome (get nat_cmp left p) × (n p ≡ 0))

-- the least of them, and the others
pub record IsLeastFree (left : BTreeMap ℕ Move) (p : ℕ) : Type 0 where
  pub there : IsSome (get nat_cmp left p)
  pub free : takers left p ≡ 0
  pub least : (q : ℕ) → IsSome (get nat_cmp left q) → takers left q ≡ 0 → p ≤ q

pub record AreOthers (free : BTreeSet ℕ) (left : BTreeMap ℕ Move) (p : ℕ) : Type 0 where
  pub each : (q : ℕ) → (contains nat_cmp free q ≡ true) ↔ (IsSome (get nat_cmp left q) × (takers left q ≡ 0) × ¬ (q ≡ p))

-- all that is known
pub record AreKnown (moves : BTreeMap ℕ Move) (counts : BTreeMap ℕ ℕ) (free : BTreeSet ℕ) : Type 0 where
  pub left : AreLeft moves
  pub counted : AreCounts counts (takers moves)
  pub freed : AreFree free moves (takers moves)

-- the pair, if one is done, is the next, and the other moves are left then
abbrev pub Steps : BTreeMap ℕ Move → Option Move → BTreeMap ℕ Move → Type 0
Steps old None new = next (values old) ≡ None
Steps old (Some p) new = next (values old) ≡ Some (p, values new)
