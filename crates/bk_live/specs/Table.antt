-- The next uses of all values at all places of a function, as a table gives them.
use Rattle.std.specs.Prelude.{◌≡◌, ◌↔◌, ℕ, ◌+◌, ◌<◌, ◌==◌, ◌&&◌, nat_lt, nat_le, List, [], length, Option, None, Some, slice_index_or, if◌then◌else◌}
use Rattle.std.specs.BTreeSet.{keys_between}
use Rattle.std.specs.List.{Contains, fold, slice_get}
use Rattle.std.specs.List.Sorted.{IsStrictlySortedBy}
use Rattle.std.specs.Option.{option_and_then, option_map}
use Rattle.std.specs.Ordering.{nat_cmp, ordering_then}
use Rattle.std.specs.declared.cmp.Ordering.{Ordering}
use Rattle.std.specs.declared.ops.Bound.TheVariants.{Included, Unbounded}
use Rattle.bk_func.specs.Records.{FuncRecord}
use Rattle.bk_live.specs.declared.homes.Spot.{Spot}
use Rattle.bk_live.specs.declared.rows.LiveValue.{LiveValue}
use Rattle.bk_live.specs.declared.table.Sight.{Sight}
use Rattle.bk_live.specs.declared.table.Sight.TheVariants as sees
use Rattle.bk_live.specs.declared.table.Table.{Table}
use Rattle.bk_live.specs.Counts.{AreCounts, count_at, steps_between, total_at}
use Rattle.bk_live.specs.Homes.{AreHomes, ArePlaces, home, place}
use Rattle.bk_live.specs.Live.{IsLive, IsNextUse, IsOrdered, IsUsedAt, Leads}
use Rattle.bk_live.specs.Rows.{HasLiveUpTo, IsRising, distance_in, values_of}
use Rattle.bk_live.specs.Seen.{LeadOn, lesser}

abbrev pub use_cmp : ℕ × ℕ × ℕ → ℕ × ℕ × ℕ → Ordering
use_cmp a b = ordering_then (ordering_then (nat_cmp a.0 b.0) (nat_cmp a.1 b.1)) (nat_cmp a.2 b.2)

-- a value, the place of a block and an entry
abbrev pub use_key : ℕ → ℕ → ℕ → ℕ × ℕ × ℕ
use_key n i k = (n, i, k)

-- the entry of a use, where it is one of the value in the block
abbrev pub entry_of : ℕ → ℕ → Option (ℕ × ℕ × ℕ) → Option ℕ
entry_of n i None = None
entry_of n i (Some u) = if u.0 == n && u.1 == i then Some u.2 else None

-- the first use of n behind k entries of the block at i
abbrev pub first_use : Table → ℕ → ℕ → ℕ → Option ℕ
first_use t i k n = entry_of n i (slice_get (keys_between use_cmp (Included (use_key n i k)) Unbounded t.uses) 0)

-- the entry at which n stands, where it is one of these
abbrev pub entry_from : ℕ → ℕ → Option Spot → Option ℕ
entry_from i k None = None
entry_from i k (Some s) = if s.block == i && nat_le k s.entry then Some s.entry else None

abbrev pub definition : Table → ℕ → ℕ → ℕ → Option ℕ
definition t i k n = entry_from i k (home t.homes n)

-- what comes first
abbrev pub sight_of : Option ℕ → Option ℕ → Sight
sight_of None None = sees.End
sight_of None (Some d) = sees.Definition
sight_of (Some u) None = sees.Use u
sight_of (Some u) (Some d) = if nat_lt d u then sees.Definition else sees.Use u

abbrev pub look : Table → ℕ → ℕ → ℕ → Sight
look t i k n = sight_of (first_use t i k n) (definition t i k n)

-- the least distance from the starts of these blocks
abbrev pub nearer : List (List LiveValue) → ℕ → Option ℕ → ℕ → Option ℕ
nearer rows n o q = lesser o (distance_in (slice_index_or rows q []) n)

abbrev pub least_behind : Table → ℕ → ℕ → Option ℕ
least_behind t i n = fold (nearer t.live n) None (slice_index_or t.edges i [])

-- the next use from behind so many scheduled places of the block, by what comes first
abbrev pub told : Table → ℕ → ℕ → ℕ → Sight → Option ℕ
told t i n before (sees.Use l) = option_map (steps_between before) (count_at t.counts i l)
told t i n before sees.Definition = None
told t i n before sees.End = option_map (λ d. steps_between before (total_at t.counts i) + d) (least_behind t i n)

abbrev pub next_at : Table → ℕ → ℕ → ℕ → Option ℕ
next_at t k n i = option_and_then (λ before. told t i n before (look t i k n)) (count_at t.counts i k)

-- the next use of n behind k entries of the order of the block with the number b
unfoldable pub next_in : Table → ℕ → ℕ → ℕ → Option ℕ
next_in t b k n = option_and_then (next_at t k n) (place t.places b)

-- the rows have the least distances of the values that are live at the starts of blocks
pub record AreNextUses (f : FuncRecord) (os : List (List ℕ)) (rows : List (List LiveValue)) : Type 0 where
  pub size : length rows ≡ length f.blocks
  pub leads : (i : ℕ) (l : LiveValue) → i < length f.blocks → Contains (slice_index_or rows i []) l → Leads f os l.value i 0 l.distance
  pub least : (i n m : ℕ) → i < length f.blocks → Leads f os n i 0 m → HasLiveUpTo (slice_index_or rows i []) n m

-- the table of a function whose blocks have these orders
pub record IsTable (f : FuncRecord) (os : List (List ℕ)) (t : Table) : Type 0 where
  pub given : IsOrdered f os
  pub homes : AreHomes os (home t.homes)
  pub places : ArePlaces f.blocks (place t.places)
  pub edges : LeadOn f t.edges
  pub counts : AreCounts f os t.counts
  pub ordered : IsStrictlySortedBy use_cmp t.uses.keys
  pub uses : (n i k : ℕ) → Contains t.uses.keys (use_key n i k) ↔ IsUsedAt f os n i k
  pub live : AreNextUses f os t.live

-- the row has the values that are live at the start of the block at i, with their next uses, by rising number
pub record IsLiveRow (f : FuncRecord) (os : List (List ℕ)) (i : ℕ) (row : List LiveValue) : Type 0 where
  pub next : (l : LiveValue) → Contains row l ↔ IsNextUse f os l.value i 0 l.distance
  pub live : (n : ℕ) → Contains (values_of row) n ↔ IsLive f os n i 0
  pub rising : IsRising row
