-- The table after each kind of atomic step of the seat `id`, whose view is v.
use Rattle.std.specs.Prelude.{◌≡◌, ◌≢◌, ℕ, ◌+◌, ◌%◌, ◌^◌, [], ◌∷◌, ◌++◌, length, slice_index, slice_set}
use mathlib.Core.Option.{some}
use lib.ListN.{get_elem?}
use Rattle.atomic_table.specs.Table.{stepped, keeps}
use Rattle.bk_core.specs.Events.{drew, saw, taken, after, CanHappen, IsAnnounced}
use Rattle.bk_core.specs.declared.events.Event.{Event}
use Rattle.bk_share.specs.declared.rules.Seen.{Seen}
use Rattle.bk_share.specs.Plan.{Scheme, base}
use Rattle.bk_share.specs.Law.{TableState, core_of, seen, left, right, merged, spent}

-- the table has the words of the plan, and the seat is there with this view, which has a part
abbrev pub IsSeat : Scheme → TableState → ℕ → Seen → Type 0
IsSeat p s id v = (length s.words ≡ base p.announced 3) × (get_elem? s.views id ≡ some v) × (v.view.parts ≢ 0)

-- from the table s to the table t one event happened to the core: its conditions held, a take's key was announced, and the core
-- is the one after it
pub record IsEvent (p : Scheme) (s : TableState) (e : Event) (t : TableState) : Type 0 where
  pub can : CanHappen (core_of p s) e
  pub announced : IsAnnounced p.announced e
  pub is : core_of p t ≡ after (core_of p s) e

-- one is added to word 0, and the old word is drawn
abbrev pub after_claim : TableState → ℕ → Seen → TableState
after_claim s id v = let n = slice_index s.words 0 in stepped s 0 ((n + 1) % 2 ^ 64) id [] (seen v.plan (drew v.view n)) keeps

-- a cell is read
abbrev pub after_look : Scheme → TableState → ℕ → Seen → ℕ → ℕ → TableState
after_look p s id v area cell = let i = base p.announced area + cell in let n = slice_index s.words i in stepped s i n id [] (seen v.plan (saw v.view area cell n)) keeps

-- an empty cell is exchanged for the key, and a full one is read
abbrev pub after_take : Scheme → TableState → ℕ → Seen → ℕ → ℕ → ℕ → TableState
after_take p s id v area cell key = let i = base p.announced area + cell in let n = taken (slice_index s.words i) key in stepped s i n id [] (seen v.plan (saw v.view area cell n)) keeps

-- a seat is split, and a new last seat has one part
abbrev pub after_split : TableState → ℕ → Seen → TableState
after_split s id v = record { words = s.words; homes = s.homes; views = slice_set s.views id (left v) ++ right v ∷ [] }

-- the seat `other`, whose view is w, is joined to the seat
abbrev pub after_join : TableState → ℕ → Seen → ℕ → Seen → TableState
after_join s id v other w = record { words = s.words; homes = s.homes; views = slice_set (slice_set s.views id (merged v w)) other spent }
