-- Where values and blocks stand, by their numbers.
use Rattle.std.specs.Prelude.{◌≡◌, ℕ, ◌<◌, List, [], ◌∷◌, ◌++◌, length, Option, None, Some, IsSome, ◌⊎◌}
use Rattle.std.specs.List.{slice_get}
use Rattle.std.specs.BTreeMap.{get}
use Rattle.std.specs.Ordering.{nat_cmp}
use Rattle.bk_func.specs.Records.{BlockRecord}
use Rattle.bk_live.specs.declared.homes.Homes.{Homes}
use Rattle.bk_live.specs.declared.homes.Spot.{Spot}
use Rattle.bk_live.specs.declared.places.Places.{Places}
use Rattle.bk_live.specs.Live.{order_at, IsEntry}

abbrev pub home : Homes → ℕ → Option Spot
home h n = get nat_cmp h.spots n

abbrev pub place : Places → ℕ → Option ℕ
place p n = get nat_cmp p.places n

-- the spots of the entries of the orders, up to the entry k of the order i
pub record HomesUpTo (os : List (List ℕ)) (i k : ℕ) (h : ℕ → Option Spot) : Type 0 where
  pub right : (n : ℕ) (s : Spot) → h n ≡ Some s → IsEntry os s.block s.entry n
  pub there : (j l n : ℕ) → (j < i) ⊎ ((j ≡ i) × l < k) → IsEntry os j l n → IsSome (h n)

-- of all entries
pub record AreHomes (os : List (List ℕ)) (h : ℕ → Option Spot) : Type 0 where
  pub right : (n : ℕ) (s : Spot) → h n ≡ Some s → IsEntry os s.block s.entry n
  pub there : (j l n : ℕ) → IsEntry os j l n → IsSome (h n)

-- the places of the first i blocks
pub record PlacesUpTo (bs : List BlockRecord) (i : ℕ) (p : ℕ → Option ℕ) : Type 0 where
  pub right : (n q : ℕ) → p n ≡ Some q → (b : BlockRecord) × (slice_get bs q ≡ Some b) × (b.id ≡ n)
  pub there : (q : ℕ) (b : BlockRecord) → q < i → slice_get bs q ≡ Some b → IsSome (p b.id)

-- of all blocks
pub record ArePlaces (bs : List BlockRecord) (p : ℕ → Option ℕ) : Type 0 where
  pub right : (n q : ℕ) → p n ≡ Some q → (b : BlockRecord) × (slice_get bs q ≡ Some b) × (b.id ≡ n)
  pub there : (q : ℕ) (b : BlockRecord) → slice_get bs q ≡ Some b → IsSome (p b.id)

-- the value stands in the block of the spot, before it
abbrev pub IsBehind : (ℕ → Option Spot) → ℕ → Spot → Type 0
IsBehind h n s = (t : Spot) × (h n ≡ Some t) × (t.block ≡ s.block) × t.entry < s.entry

abbrev pub spot : ℕ → ℕ → Spot
spot i k = record { block = i; entry = k }

abbrev pub end_of : List (List ℕ) → ℕ → Spot
end_of os i = spot i (length (order_at os i))

-- one more place at the end, if there is one
abbrev pub with_place : List ℕ → Option ℕ → List ℕ
with_place ps None = ps
with_place ps (Some p) = ps ++ p ∷ []
