-- Places in turn: each after those from which edges lead to it, the least score first.
use Rattle.std.specs.Prelude.{◌≡◌, ℕ, ◌<◌, ◌≤◌, ◌↔◌, ◌⊎◌, Bool, true, List, [], ◌∷◌, ◌++◌, length, slice_index}
use Rattle.std.specs.List.{Contains}
use Rattle.std.specs.Ordering.{nat_cmp, ordering_then}
use Rattle.std.specs.declared.cmp.Ordering.{Ordering}
use Rattle.std.specs.BTreeSet.{BTreeSet, contains}
use Rattle.bk_sched.specs.declared.turns.Turn.{Turn}
use Rattle.bk_places.specs.Search.{IsEdge}

-- edges lead to places that are there
abbrev pub StaysWithin : List (List ℕ) → Type 0
StaysWithin es = (p q : ℕ) → IsEdge es p q → q < length es

-- no edge leads to the place from those that are left
abbrev pub IsFree : List (List ℕ) → List ℕ → ℕ → Type 0
IsFree es left p = (q : ℕ) → Contains left q → ¬ IsEdge es q p

-- of places that are left, in rising order, the free one with the least score is next, the first of several, as long as one is free
pub data Turned (scores : List ℕ) (es : List (List ℕ)) : List ℕ → List ℕ → Type 0 where
  done : (xs : List ℕ) → ((p : ℕ) → Contains xs p → ¬ IsFree es xs p) → Turned scores es xs []
  next : (xs ys zs : List ℕ) (p : ℕ) → IsFree es (xs ++ p ∷ ys) p
      → ((q : ℕ) → Contains xs q → IsFree es (xs ++ p ∷ ys) q → slice_index scores p < slice_index scores q)
      → ((q : ℕ) → Contains ys q → IsFree es (xs ++ p ∷ ys) q → slice_index scores p ≤ slice_index scores q)
      → Turned scores es (xs ++ ys) zs → Turned scores es (xs ++ p ∷ ys) (p ∷ zs)

-- by score and by place
abbrev pub turn_cmp : Turn → Turn → Ordering
turn_cmp a b = ordering_then (nat_cmp a.score b.score) (nat_cmp a.place b.place)

abbrev pub has_turn : BTreeSet Turn → Turn → Bool
has_turn ready t = contains turn_cmp ready t

-- the turn is that of its place, to which no edge leads any more
abbrev pub IsDue : List ℕ → List ℕ → Turn → Type 0
IsDue scores waits t = (t.score ≡ slice_index scores t.place) × (slice_index waits t.place ≡ 0)

-- those of the first so many places to which no edge leads
pub record AreReady (scores waits : List ℕ) (n : ℕ) (ready : BTreeSet Turn) : Type 0 where
  pub each : (t : Turn) → (has_turn ready t ≡ true) ↔ (t.place < n × IsDue scores waits t)

-- the set has what it had, and those of the places to which no edge leads any more
pub record Released (scores ps waits : List ℕ) (old new : BTreeSet Turn) : Type 0 where
  pub each : (t : Turn) → (has_turn new t ≡ true) ↔ ((has_turn old t ≡ true) ⊎ (Contains ps t.place × IsDue scores waits t))
