-- How many values are live at the places of a block, and what next uses are at the places of its values.
use Rattle.std.specs.Prelude.{◌≡◌, ℕ, ◌+◌, ◌<◌, ◌≤◌, ◌||◌, Bool, true, false, if◌then◌else◌, List, [], ◌∷◌, length, map, max, filter, slice_index_or, Option, None, Some, ◌⊎◌}
use Rattle.std.specs.List.{Contains}
use Rattle.bk_alloc.specs.declared.acts.Role.{Role}
use Rattle.bk_alloc.specs.declared.acts.Role.TheVariants.{Plain, Taken, Calls, Leaves}
use Rattle.bk_alloc.specs.Registers.{Registers, Uses, holds, is_kept, is_open}
use Rattle.bk_alloc.specs.Tasks.{TaskRecord, ActRecord, passing, after_task}
use Rattle.bk_alloc.specs.Blocks.{PlanRecord, phis_of, controls}
use Rattle.bk_alloc.specs.Placing.{values_loaded}

abbrev pub is_used : Option ℕ → Bool
is_used None = false
is_used (Some m) = true

-- the value is live at the place of these next uses
abbrev pub IsUsed : Uses → ℕ → Type 0
IsUsed n v = is_used (n v) ≡ true

-- the words that are live at a place, and these: words are the function's values that are no memory
abbrev pub live : List ℕ → Uses → List ℕ → List ℕ
live words n also = filter (λ v. is_used (n v) || is_kept also v) words

abbrev pub result_of : TaskRecord → List ℕ
result_of t = if t.gives then t.value ∷ [] else []

-- the pressure at a scheduled value: how many words are live just before it, its arguments included, or just after it, its
-- result included, whichever are more
abbrev pub pressure : List ℕ → Uses → Uses → TaskRecord → ℕ
pressure words before after t = max (length (live words before t.args)) (length (live words after (result_of t)))

-- the pressure at each of these values, the first standing behind k entries, is at most so much
unfoldable pub ArePressed : ℕ → List ℕ → (ℕ → Uses) → ℕ → List TaskRecord → Type 0
ArePressed limit words next k [] = Unit
ArePressed limit words next k (t ∷ ts) = (pressure words (next k) (next (k + 1)) t ≤ limit) × ArePressed limit words next (k + 1) ts

abbrev pub values_of : List TaskRecord → List ℕ
values_of ts = map (λ t. t.value) ts

-- next uses at a value: its arguments are used there, and what is used after it, but for itself, is used before it
pub record IsPassed (words : List ℕ) (before after : Uses) (later : List ℕ) (t : TaskRecord) : Type 0 where
  pub args : (a : ℕ) → Contains t.args a → Contains words a × IsUsed before a
  pub rest : (v : ℕ) → IsUsed after v → ¬ (v ≡ t.value) → IsUsed before v
  pub word : t.gives ≡ true → Contains words t.value
  pub gives : Contains words t.value → t.gives ≡ true
  pub new : ¬ Contains later t.value

unfoldable pub ArePassed : List ℕ → (ℕ → Uses) → ℕ → List TaskRecord → Type 0
ArePassed words next k [] = Unit
ArePassed words next k (t ∷ ts) = IsPassed words (next k) (next (k + 1)) (values_of ts) t × ArePassed words next (k + 1) ts

-- the value is no call, and a word that was passed in a register finds it open
abbrev pub IsQuietAs : Registers → TaskRecord → Role → Type 0
IsQuietAs rs t Plain = Unit
IsQuietAs rs t (Taken w) = (t.gives ≡ true) × (passing w < length rs) × (is_open (slice_index_or rs (passing w) None) ≡ true)
IsQuietAs rs t Calls = ⊥
IsQuietAs rs t Leaves = t.gives ≡ false

unfoldable pub AreQuiet : (ℕ → Uses) → ℕ → List TaskRecord → Registers → Type 0
AreQuiet next k [] rs = Unit
AreQuiet next k (t ∷ ts) rs = IsQuietAs rs t t.role × AreQuiet next (k + 1) ts (after_task (next (k + 1)) t rs)

-- registers hold words, none of them twice and none that is made later, and all words that are live
pub record HoldsLive (words : List ℕ) (n : Uses) (later : List ℕ) (rs : Registers) : Type 0 where
  pub one : (q r v : ℕ) → slice_index_or rs q None ≡ Some v → slice_index_or rs r None ≡ Some v → q ≡ r
  pub every : (q v : ℕ) → slice_index_or rs q None ≡ Some v → Contains words v × ¬ Contains later v
  pub all : (v : ℕ) → Contains words v → IsUsed n v → holds rs v ≡ true

-- the act takes no value from a slot
abbrev pub LoadsNothing : ActRecord → Type 0
LoadsNothing a = values_loaded a ≡ []

-- none of these values comes twice
abbrev pub AreApart : List ℕ → Type 0
AreApart [] = Unit
AreApart (x ∷ xs) = (¬ Contains xs x) × AreApart xs

-- next uses where a block begins: its phis, all words, are not live there, and what is live behind them is a phi or live before
pub record IsBegun (words : List ℕ) (next : ℕ → Uses) (b : PlanRecord) : Type 0 where
  pub phis : (v : ℕ) → Contains (phis_of b) v → Contains words v × ¬ IsUsed (next 0) v
  pub distinct : AreApart (phis_of b)
  pub rest : (v : ℕ) → Contains words v → IsUsed (next b.skipped) v → Contains (phis_of b) v ⊎ IsUsed (next 0) v
  pub later : (v : ℕ) → Contains (values_of b.tasks) v → (¬ IsUsed (next 0) v) × ¬ Contains (phis_of b) v

-- next uses in a block
pub record IsFlow (words : List ℕ) (next : ℕ → Uses) (b : PlanRecord) : Type 0 where
  pub begun : IsBegun words next b
  pub passed : ArePassed words next b.skipped b.tasks
  pub size : b.skipped + length b.tasks ≡ b.size
  pub control : (c : ℕ) → Contains (controls b.control) c → Contains words c × IsUsed (next b.size) c

-- what registers hold where a block begins, its phis among it
pub record HoldsStart (words : List ℕ) (next : ℕ → Uses) (b : PlanRecord) (first : Registers) : Type 0 where
  pub live : HoldsLive words (next b.skipped) (values_of b.tasks) first
  pub phis : (v : ℕ) → Contains (phis_of b) v → holds first v ≡ true
  pub only : (q v : ℕ) → slice_index_or first q None ≡ Some v → Contains (phis_of b) v ⊎ IsUsed (next 0) v
