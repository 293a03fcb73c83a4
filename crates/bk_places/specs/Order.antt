-- The members of groups of values that name one state, and which places come right before which.
use Rattle.std.specs.Prelude.{◌≡◌, ◌↔◌, ℕ, ◌+◌, ◌<◌, ◌≤◌, Bool, true, false, List, [], length, Option, None, Some, slice_index, slice_index_or, ◌⊎◌}
use Rattle.std.specs.List.{Contains}
use Rattle.bk_func.specs.Records.{ValueRecord}
use Rattle.bk_func.specs.Form.Before.{IsLoad, IsNilCheck, IsResult}
use Rattle.bk_places.specs.declared.order.Lists.{Lists}
use Rattle.bk_places.specs.declared.role.Role.{Role}
use Rattle.bk_places.specs.declared.role.Role.TheVariants.{Check, Load, User}
use Rattle.bk_places.specs.Search.{IsEdge, Path}

-- what a value does with the state that it names
abbrev pub HasRole : Role → ValueRecord → Type 0
HasRole Check v = IsNilCheck v
HasRole Load v = IsLoad v
HasRole User v = IsLoad v ⊎ IsNilCheck v ⊎ IsResult v

-- for each of n groups those of its places below i that are chosen, in order
pub record AreMembers (n : ℕ) (gs : List (Option ℕ)) (cs : List Bool) (i : ℕ) (es : List (List ℕ)) : Type 0 where
  pub size : length es ≡ n
  pub each : (g p : ℕ) → Contains (slice_index_or es g []) p ↔ (p < i × (slice_index_or gs p None ≡ Some g) × (slice_index_or cs p false ≡ true))
  pub rising : (g j k : ℕ) → j < k → k < length (slice_index_or es g []) → slice_index (slice_index_or es g []) j < slice_index (slice_index_or es g []) k

-- one place of the list and the next
abbrev pub Follows : List ℕ → ℕ → ℕ → Type 0
Follows xs p q = (k : ℕ) × (k + 1 < length xs) × (slice_index xs k ≡ p) × (slice_index xs (k + 1) ≡ q)

-- the index of the first place of the list from which a path leads to q, or the end of the list
pub record IsEnd (es : List (List ℕ)) (xs : List ℕ) (q e : ℕ) : Type 0 where
  pub within : e ≤ length xs
  pub free : (j : ℕ) → j < e → ¬ Path es (length es) (slice_index xs j) q
  pub met : e < length xs → Path es (length es) (slice_index xs e) q

-- the end that a label says
abbrev pub end_of : Option ℕ → ℕ → ℕ
end_of None n = n
end_of (Some l) n = l

-- the labels are these ends
abbrev pub AreEnds : List (List ℕ) → List ℕ → List (Option ℕ) → Type 0
AreEnds es xs ls = (q : ℕ) → IsEnd es xs q (end_of (slice_index_or ls q None) (length xs))

-- p is the last place of the list before this end
abbrev pub IsLastBefore : List (List ℕ) → List ℕ → ℕ → ℕ → Type 0
IsLastBefore es xs p q = (k : ℕ) × (k < length xs) × (slice_index xs k ≡ p) × IsEnd es xs q (k + 1)

-- what the members of a group ask: what uses the state comes before the next ones, a check before the next check,
-- and before a load the last check that comes before the first that needs the load
abbrev pub IsAsked : List (List ℕ) → Lists → ℕ → ℕ → ℕ → Type 0
IsAsked es l g p q =
    (Contains (slice_index_or l.users g []) p × Contains (slice_index_or l.nexts g []) q)
    ⊎ Follows (slice_index_or l.checks g []) p q
    ⊎ (Contains (slice_index_or l.loads g []) q × IsLastBefore es (slice_index_or l.checks g []) p q)

-- one place comes right before the other: the value there takes the one here, or one of n groups asks it
abbrev pub IsRightBefore : List (List ℕ) → Lists → ℕ → ℕ → ℕ → Type 0
IsRightBefore es l n p q = IsEdge es q p ⊎ ((g : ℕ) × g < n × IsAsked es l g p q)

-- the places of the lists are below n
abbrev pub IsWithin : ℕ → List (List ℕ) → Type 0
IsWithin n es = (g p : ℕ) → Contains (slice_index_or es g []) p → p < n

-- the edges, and those of which the fact holds
pub record Adds (es : List (List ℕ)) (R : ℕ → ℕ → Type 0) (ds : List (List ℕ)) : Type 0 where
  pub size : length ds ≡ length es
  pub edge : (p q : ℕ) → IsEdge ds p q ↔ (IsEdge es p q ⊎ R p q)
