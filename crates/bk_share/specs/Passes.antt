-- Shares and passes as callers see them.
use Rattle.std.specs.Prelude.{◌≡◌, ◌≢◌, ℕ, ◌<◌, ◌≤◌, ◌==◌, List, [], ◌∷◌, ◌++◌, length, slice_index_or, Option, Some, None, count_by}
use Rattle.bk_core.specs.Rule.{Sight, sight, worker, walk, times_drawn}
use Rattle.bk_core.specs.Events.{CoreState, MeetsRule, drew}
use Rattle.bk_share.specs.declared.shares.Share.{Share}
use Rattle.bk_share.specs.declared.shares.Pass.{Pass}

-- the keys that were announced in each area of the share, repeats kept
abbrev pub announced_in : Share → List (List ℕ)
announced_in s = s.table.shared.key.announced

-- the parts of the share's first pass, and the count below which a claim is answered
abbrev pub parts_in : Share → ℕ
parts_in s = s.table.shared.key.parts

abbrev pub count_in : Share → ℕ
count_in s = s.count

-- a pass as a worker of the core
abbrev pub view : Pass → Sight
view p = p.seat.me.0.view

-- the pass is one of this share, and has a part
pub record IsPassOf (s : Share) (p : Pass) : Type 0 where
  pub table : p.seat.table_id ≡ s.table.shared.table_id
  pub plan : p.seat.me.0.plan ≡ s.table.shared.key
  pub part : (view p).parts ≢ 0
  pub slots : p.seat.me.1 ≡ []

-- one number was drawn, and it is the answer where it is below the count; at or above it there is none
abbrev pub Drew : ℕ → Sight → Option ℕ → Sight → Type 0
Drew count v (Some n) w = (n < count) × (w ≡ drew v n)
Drew count v None w = (n : ℕ) × (count ≤ n) × (w ≡ drew v n)

-- one more known pair
abbrev pub knows_more : Sight → ℕ → ℕ → ℕ → Sight
knows_more v area cell word = sight v.parts v.numbers (v.known ++ (area, cell, word) ∷ [])

-- known pairs came, one for each of the first cells on the key's walk, so at most one for each cell of the area, and nothing else changed
pub record Learns (cells area key : ℕ) (v w : Sight) : Type 0 where
  pub parts : w.parts ≡ v.parts
  pub numbers : w.numbers ≡ v.numbers
  pub more : List (ℕ × ℕ × ℕ)
  pub known : w.known ≡ v.known ++ more
  pub few : length more ≤ cells
  pub along : (j : ℕ) → j < length more → (word : ℕ) × (slice_index_or more j (0, 0, 0) ≡ (area, walk cells key j, word))
  pub one_each : (i j : ℕ) → i < length more → j < length more → (slice_index_or more i (0, 0, 0)).1 ≡ (slice_index_or more j (0, 0, 0)).1 → i ≡ j

-- the end of a share: the core at the last step, in which a worker has this view, and no number was drawn that the view has not
pub record IsLast (announced : List (List ℕ)) (parts : ℕ) (words : List (List ℕ)) (v : Sight) (m : CoreState) : Type 0 where
  pub rule : MeetsRule announced parts m
  pub areas : m.areas ≡ words
  pub id : ℕ
  pub there : worker m.workers id ≡ v
  pub all_drawn : (x : ℕ) → times_drawn x m.workers ≡ count_by (λ y. y == x) v.numbers
