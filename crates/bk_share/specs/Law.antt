-- The rule of the table, and what each step tells.
use Rattle.std.specs.Prelude.{◌≡◌, ◌≢◌, ℕ, ◌+◌, ◌<◌, [], map, length, slice_index}
use Rattle.std.specs.List.{Contains}
use mathlib.Core.Option.{some}
use lib.ListN.{get_elem?}
use Rattle.atomic_table.specs.Table.{State, Me, Step}
use Rattle.bk_core.specs.Rule.{Sight, sight, nobody, cells_of}
use Rattle.bk_core.specs.Events.{CoreState, core_state, MeetsRule, drew, saw, both, less, taken}
use Rattle.bk_share.specs.declared.rules.Seen.{Seen}
use Rattle.bk_share.specs.Plan.{Scheme, base, areas_in}

-- what a seat knows: the plan of its share, and a worker's view
abbrev pub seen : Scheme → Sight → Seen
seen plan view = record { plan = plan; view = view }

abbrev pub no_plan : Scheme
no_plan = record { announced = []; parts = 0 }

abbrev pub view_of : Seen → Sight
view_of v = v.view

-- the words of a table and the views of its seats; no slot is used
abbrev pub TableState : Type 0
TableState = State (Unit {0}) Seen

-- the core that a table stands for: word 0 is its claims word, the other words are its cells, and the seats' views its workers
abbrev pub core_of : Scheme → TableState → CoreState
core_of p s = core_state (slice_index s.words 0) (areas_in p.announced s.words) (map view_of s.views)

-- the core of the table meets the rule, and a seat with a part knows the plan
pub record Lawful (p : Scheme) (s : TableState) : Type 0 where
  pub sized : length s.words ≡ base p.announced 3
  pub rule : MeetsRule p.announced p.parts (core_of p s)
  pub planned : (id : ℕ) (v : Seen) → get_elem? s.views id ≡ some v → v.view.parts ≢ 0 → v.plan ≡ p

-- a seat's view, and the slots that it holds
abbrev pub Seated : Type 0
Seated = Me (Unit {0}) Seen

-- what the rule tells of one view: it does not know every cell of an area, and it knows one cell alone of a key
pub record IsSound (v : Seen) : Type 0 where
  pub room : (area : ℕ) → area < 3 → ¬ ((cell : ℕ) → cell < cells_of v.plan.announced area → (word : ℕ) × Contains v.view.known (area, cell, word))
  pub one_cell : (area c d key : ℕ) → Contains v.view.known (area, c, key) → Contains v.view.known (area, d, key) → c ≡ d

-- a claim: the word that was found is one more number
abbrev pub Draws : Step (Unit {0}) → Seated → ℕ → Seated → Type 0
Draws st v found w = w ≡ (seen v.0.plan (drew v.0.view found), v.1)

-- a look at a cell: the word that was found is known, if it is not 0
abbrev pub Looks : Step (Unit {0}) → Seated → ℕ → Seated → Type 0
Looks st v found w =
    ((area cell : ℕ) → area < 3 → cell < cells_of v.0.plan.announced area → st.word ≡ base v.0.plan.announced area + cell → w ≡ (seen v.0.plan (saw v.0.view area cell found), v.1))
    × IsSound w.0

-- a take of a cell: the word that stands there after it is known
abbrev pub Takes : Step (Unit {0}) → Seated → ℕ → Seated → Type 0
Takes st v found w =
    ((area cell : ℕ) → area < 3 → cell < cells_of v.0.plan.announced area → st.word ≡ base v.0.plan.announced area + cell → w ≡ (seen v.0.plan (saw v.0.view area cell (taken found st.second)), v.1))
    × IsSound w.0

-- a split: one part goes to a new seat, which has nothing else
abbrev pub left : Seen → Seen
left v = seen v.plan (less v.view)

abbrev pub right : Seen → Seen
right v = seen v.plan (sight 1 [] [])

-- a join: one seat gets all that the other has, and the other is left with nothing
abbrev pub merged : Seen → Seen → Seen
merged v w = seen v.plan (both v.view w.view)

abbrev pub spent : Seen
spent = seen no_plan nobody
