-- The core of a share, its five events, and the cores that they reach.
use Rattle.std.specs.Prelude.{◌≡◌, ◌≢◌, ℕ, ◌+◌, ◌-◌, ◌%◌, ◌^◌, ◌<◌, ◌==◌, if◌then◌else◌, List, [], ◌∷◌, ◌++◌, map, replicate, length, slice_index_or, slice_set}
use Rattle.std.specs.List.{Contains}
use Rattle.std.specs.declared.vec.Vec.{Vec}
use Rattle.std.specs.declared.alloc.Global.{Global}
use Rattle.bk_core.specs.Rule.{Sight, sight, nobody, worker, keys_of, cells_of, walk, Rule}
use Rattle.bk_core.specs.declared.events.Event.{Event}
use Rattle.bk_core.specs.declared.events.Event.TheVariants.{Claim, Look, Take, Split, Join}

-- a `Core` as contracts see it: the claims word, the words of each area's cells, and the workers
pub record CoreState : Type 0 where
  pub claims : ℕ
  pub areas : List (List ℕ)
  pub workers : List Sight

abbrev pub core_state : ℕ → List (List ℕ) → List Sight → CoreState
core_state claims areas workers = record { claims = claims; areas = areas; workers = workers }

-- the word of a cell, and the areas where the cell has another word
abbrev pub word_at : List (List ℕ) → ℕ → ℕ → ℕ
word_at areas area cell = slice_index_or (slice_index_or areas area []) cell 0

abbrev pub with_word : List (List ℕ) → ℕ → ℕ → ℕ → List (List ℕ)
with_word areas area cell word = slice_set areas area (slice_set (slice_index_or areas area []) cell word)

-- the words of areas that are kept as a `Vec` of `Vec`s
abbrev pub words_of : Vec (Vec ℕ Global) Global → List (List ℕ)
words_of areas = map (λ (v : Vec ℕ Global). v.items) areas.items

-- a worker with one more number
abbrev pub drew : Sight → ℕ → Sight
drew v n = sight v.parts (v.numbers ++ n ∷ []) v.known

-- a worker that saw the word in the cell: one more known pair, unless the word is 0
abbrev pub saw : Sight → ℕ → ℕ → ℕ → Sight
saw v area cell word = if word == 0 then v else sight v.parts v.numbers (v.known ++ (area, cell, word) ∷ [])

-- a worker with all that two had, and one with a part less
abbrev pub both : Sight → Sight → Sight
both v w = sight (v.parts + w.parts) (v.numbers ++ w.numbers) (v.known ++ w.known)

abbrev pub less : Sight → Sight
less v = sight (v.parts - 1) v.numbers v.known

-- what a take of the key leaves in a cell with this word
abbrev pub taken : ℕ → ℕ → ℕ
taken word key = if word == 0 then key else word

-- what each event does: a claim draws the claims word, which rises by one; a look tells a cell's word; a take fills an empty cell and tells its word;
-- a split gives one part to a new last worker; a join gives `to` all that `from` has
abbrev pub after : CoreState → Event → CoreState
after m (Claim w) = core_state ((m.claims + 1) % 2 ^ 64) m.areas (slice_set m.workers w (drew (worker m.workers w) m.claims))
after m (Look w a c) = core_state m.claims m.areas (slice_set m.workers w (saw (worker m.workers w) a c (word_at m.areas a c)))
after m (Take w a c k) = let now = taken (word_at m.areas a c) k in core_state m.claims (with_word m.areas a c now) (slice_set m.workers w (saw (worker m.workers w) a c now))
after m (Split w) = core_state m.claims m.areas (slice_set m.workers w (less (worker m.workers w)) ++ sight 1 [] [] ∷ [])
after m (Join from to) = core_state m.claims m.areas (slice_set (slice_set m.workers to (both (worker m.workers to) (worker m.workers from))) from nobody)

-- the worker exists and has a part
abbrev pub IsAtWork : CoreState → ℕ → Type 0
IsAtWork m w = (w < length m.workers) × ((worker m.workers w).parts ≢ 0)

-- the worker is at work, and the cell is there
abbrev pub CanLook : CoreState → ℕ → ℕ → ℕ → Type 0
CanLook m w a c = IsAtWork m w × (a < 3) × (c < length (slice_index_or m.areas a []))

-- the key's walk comes to the cell, and each cell before it is known, with another key
abbrev pub HasWalked : List (ℕ × ℕ × ℕ) → ℕ → ℕ → ℕ → ℕ → Type 0
HasWalked known cells a c k = (steps : ℕ) × (steps < cells) × (walk cells k steps ≡ c) × ((j : ℕ) → j < steps → (other : ℕ) × (other ≢ k) × Contains known (a, walk cells k j, other))

-- the conditions of an event
abbrev pub CanHappen : CoreState → Event → Type 0
CanHappen m (Claim w) = IsAtWork m w
CanHappen m (Look w a c) = CanLook m w a c
CanHappen m (Take w a c k) = CanLook m w a c × (k ≢ 0) × HasWalked (worker m.workers w).known (length (slice_index_or m.areas a [])) a c k
CanHappen m (Split w) = (w < length m.workers) × (1 < (worker m.workers w).parts)
CanHappen m (Join from to) = IsAtWork m from × IsAtWork m to × (from ≢ to)

-- where two workers join, the sum of their parts fits a word
abbrev pub PartsFit : CoreState → Event → Type 0
PartsFit m (Join from to) = (worker m.workers from).parts + (worker m.workers to).parts < 2 ^ 64
PartsFit m _ = Unit {0}

-- a take's key is announced in its area
abbrev pub IsAnnounced : List (List ℕ) → Event → Type 0
IsAnnounced announced (Take w a c k) = Contains (keys_of announced a) k
IsAnnounced announced _ = Unit {0}

-- the rule of a core: its areas have their sizes, and its words and workers meet the rule
pub record MeetsRule (announced : List (List ℕ)) (parts : ℕ) (m : CoreState) : Type 0 where
  pub rule : Rule announced parts m.claims (word_at m.areas) m.workers
  pub sizes : (a : ℕ) → a < 3 → length (slice_index_or m.areas a []) ≡ cells_of announced a

-- cells with nothing
abbrev pub zeros : ℕ → List ℕ
zeros n = replicate n 0

-- the core at the start: nothing is claimed, all cells are 0, and one worker has all the parts
abbrev pub start : List (List ℕ) → ℕ → CoreState
start announced parts = core_state 0 (map (λ keys. zeros (length keys + 1)) announced) (sight parts [] [] ∷ [])

-- the core after all events
abbrev pub reach_from : CoreState → List Event → CoreState
reach_from m [] = m
reach_from m (e ∷ es) = reach_from (after m e) es

abbrev pub reach : List (List ℕ) → ℕ → List Event → CoreState
reach announced parts events = reach_from (start announced parts) events

-- the conditions of each event hold when it comes, and the keys are announced
abbrev pub CanRun : List (List ℕ) → CoreState → List Event → Type 0
CanRun announced m [] = Unit {0}
CanRun announced m (e ∷ es) = CanHappen m e × IsAnnounced announced e × CanRun announced (after m e) es
