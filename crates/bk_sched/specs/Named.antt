-- What numbers stand for and what values name, by places of numbers.
use Rattle.std.specs.Prelude.{◌≡◌, ◌↔◌, ℕ, ◌<◌, ◌≤◌, ◌++◌, ◌∷◌, List, [], length, Option, None, Some, slice_index_or}
use Rattle.std.specs.List.{Contains, slice_get}
use Rattle.std.specs.Ordering.{nat_cmp}
use Rattle.std.specs.BTreeMap.{get}
use Rattle.bk_func.specs.Records.{ValueRecord, BlockRecord}
use Rattle.bk_func.specs.Form.States.{CopiesMemory}
use Rattle.bk_places.specs.Named.{NamesBy, place_in}
use Rattle.bk_sched.specs.declared.places.Places.{Places}
use Rattle.bk_places.specs.Search.{IsEdge}
use Rattle.bk_sched.specs.Order.{Names, StandsFor}

-- one more number, if there is one
abbrev pub pushed : List ℕ → Option ℕ → List ℕ
pushed ns None = ns
pushed ns (Some n) = ns ++ n ∷ []

-- the numbers begin with those of the values, and each by which a value names a state is among them
pub record AreKnown (vs : List ValueRecord) (ns : List ℕ) : Type 0 where
  pub long : length vs ≤ length ns
  pub own : (p : ℕ) (v : ValueRecord) → slice_get vs p ≡ Some v → slice_get ns p ≡ Some v.id
  pub named : (p n : ℕ) (v : ValueRecord) → slice_get vs p ≡ Some v → NamesBy v n → Contains ns n

-- the map has the first place of each number
pub record ArePlaces (vs : List ValueRecord) (p : Places) : Type 0 where
  pub known : AreKnown vs p.numbers.items
  pub found : (n : ℕ) → get nat_cmp p.by_number n ≡ place_in p.numbers.items n

-- the value copies memory, whose number has the place
abbrev pub Copies : List ℕ → ValueRecord → ℕ → Type 0
Copies ns v p = CopiesMemory v × ((n : ℕ) × NamesBy v n × (place_in ns n ≡ Some p))

-- the value at the second place copies that at the first
abbrev pub IsCopyAt : List ValueRecord → List ℕ → ℕ → ℕ → Type 0
IsCopyAt vs ns p q = (v : ValueRecord) × (slice_get vs q ≡ Some v) × Copies ns v p

-- the place is that of the state that the value names, by the places for which numbers stand
abbrev pub NamesPlace : List ℕ → List (Option ℕ) → ValueRecord → Option ℕ → Type 0
NamesPlace ns rs v o = (g : ℕ) → (o ≡ Some g) ↔ ((n p : ℕ) × NamesBy v n × (place_in ns n ≡ Some p) × (slice_index_or rs p None ≡ Some g))

-- edges that lead from numbers to their copies, of those below the place i
pub record AreCopies (vs : List ValueRecord) (ns : List ℕ) (i : ℕ) (es : List (List ℕ)) : Type 0 where
  pub size : length es ≡ length ns
  pub edge : (p q : ℕ) → IsEdge es p q ↔ (q < i × IsCopyAt vs ns p q)

-- for the place of each number that of the number for which it stands
pub record AreRoots (b : BlockRecord) (ns : List ℕ) (rs : List (Option ℕ)) : Type 0 where
  pub within : (p r : ℕ) → slice_index_or rs p None ≡ Some r → r < length ns
  pub sound : (n p r : ℕ) → place_in ns n ≡ Some p → slice_index_or rs p None ≡ Some r → (s : ℕ) × (place_in ns s ≡ Some r) × StandsFor b n s
  pub whole : (n s p : ℕ) → place_in ns n ≡ Some p → StandsFor b n s → (r : ℕ) × (place_in ns s ≡ Some r) × (slice_index_or rs p None ≡ Some r)

-- for each value the place of the state that it names
pub record AreNamed (b : BlockRecord) (ns : List ℕ) (gs : List (Option ℕ)) : Type 0 where
  pub size : length gs ≡ length b.values
  pub within : (p g : ℕ) → slice_index_or gs p None ≡ Some g → g < length ns
  pub named : (p g : ℕ) (v : ValueRecord) → slice_get b.values p ≡ Some v → slice_index_or gs p None ≡ Some g → (s : ℕ) × Names b v s
  pub same : (p q g s : ℕ) (u v : ValueRecord) → slice_get b.values p ≡ Some u → slice_get b.values q ≡ Some v → slice_index_or gs p None ≡ Some g
      → slice_index_or gs q None ≡ Some g → Names b u s → Names b v s
  pub one : (p q s : ℕ) (u v : ValueRecord) → slice_get b.values p ≡ Some u → slice_get b.values q ≡ Some v → Names b u s → Names b v s
      → (g : ℕ) × (slice_index_or gs p None ≡ Some g) × (slice_index_or gs q None ≡ Some g)
