-- What registers and slots hold while acts are done. Slots are those of values, by their numbers.
use Rattle.std.specs.Prelude.{◌≡◌, ℕ, zero, suc, ◌+◌, ◌<◌, ◌≤◌, Bool, true, if◌then◌else◌, List, [], ◌∷◌, ◌++◌, length, map, slice_index_or, Option, None, Some}
use Rattle.std.specs.List.{Contains}
use Rattle.bk_func.specs.declared.parts.Loc.{Loc}
use Rattle.bk_func.specs.declared.parts.Loc.TheVariants.{Reg, Slot, Swap}
use Rattle.bk_shuffle.specs.AtOnce.{holding, after_all}
use Rattle.bk_alloc.specs.declared.acts.Role.{Role}
use Rattle.bk_alloc.specs.declared.acts.Role.TheVariants.{Plain, Taken, Calls, Leaves}
use Rattle.bk_alloc.specs.Registers.{Registers, Uses}
use Rattle.bk_alloc.specs.Tasks.{ActRecord, load, compute, take, call, leave, move_all, passing, TaskRecord}

-- the numbers of values, which of them have slots, and what a call leaves in each register
pub record World : Type 0 where
  pub number : ℕ → ℕ
  pub home : ℕ → Bool
  pub left : ℕ → ℕ → ℕ

abbrev pub State : Type 0
State = Loc → ℕ

-- a value in a register is stored to its slot, if it has one
abbrev pub stored : World → ℕ → ℕ → State → State
stored w v r s = if w.home v then holding s (Slot v) (s (Reg r)) else s

abbrev pub computed : World → ℕ → Option ℕ → State → State
computed w v None s = s
computed w v (Some r) s = stored w v r (holding s (Reg r) (w.number v))

abbrev pub called : (ℕ → ℕ) → State → State
called g s (Reg r) = g r
called g s (Slot v) = s (Slot v)
called g s Swap = s Swap

unfoldable pub after_act : World → ActRecord → State → State
after_act w (load r v) s = holding s (Reg r) (s (Slot v))
after_act w (compute v rs to) s = computed w v to s
after_act w (take v r) s = stored w v r s
after_act w (call v n) s = called (w.left v) s
after_act w (leave v n) s = s
after_act w (move_all ms) s = after_all ms s

unfoldable pub after_acts : World → List ActRecord → State → State
after_acts w [] s = s
after_acts w (a ∷ bs) s = after_acts w bs (after_act w a s)

-- the numbers in the registers that pass words
abbrev pub passed : State → ℕ → ℕ → List ℕ
passed s w zero = []
passed s w (suc n) = s (Reg (passing w)) ∷ passed s (w + 1) n

-- what a computation finds: its value, and the numbers in the registers that it takes from
abbrev pub finds : ActRecord → State → List (ℕ × List ℕ)
finds (compute v rs to) s = (v, map (λ r. s (Reg r)) rs) ∷ []
finds (take v r) s = (v, []) ∷ []
finds (call v n) s = (v, passed s 0 n) ∷ []
finds (leave v n) s = (v, passed s 0 n) ∷ []
finds _ s = []

unfoldable pub found : World → List ActRecord → State → List (ℕ × List ℕ)
found w [] s = []
found w (a ∷ bs) s = finds a s ++ found w bs (after_act w a s)

-- registers hold the numbers of their values, and slots those of the known values that have one
pub record Holds (w : World) (rs : Registers) (known : List ℕ) (s : State) : Type 0 where
  pub registers : (r v : ℕ) → slice_index_or rs r None ≡ Some v → s (Reg r) ≡ w.number v
  pub slots : (v : ℕ) → Contains known v → w.home v ≡ true → s (Slot v) ≡ w.number v

-- what the acts take from slots has one
abbrev pub IsHomed : World → ActRecord → Type 0
IsHomed w (load r v) = w.home v ≡ true
IsHomed w (move_all ms) = (v : ℕ) (l : Loc) → Contains ms (Slot v, l) → w.home v ≡ true
IsHomed w _ = Unit

unfoldable pub AreHomed : World → List ActRecord → Type 0
AreHomed w [] = Unit
AreHomed w (a ∷ bs) = IsHomed w a × AreHomed w bs

-- words that are passed in registers are still there: they are taken right after the call that left them, or at the start
abbrev pub IsThere : World → Option (ℕ → ℕ) → ℕ → ℕ → Type 0
IsThere w None k v = ⊥
IsThere w (Some g) k v = g (passing k) ≡ w.number v

abbrev pub left_by : World → Option (ℕ → ℕ) → TaskRecord → Role → Option (ℕ → ℕ)
left_by w o t Plain = None
left_by w o t (Taken k) = o
left_by w o t Calls = Some (w.left t.value)
left_by w o t Leaves = None

-- what is taken is there, and behind the words that are handed to the caller no known value is used
abbrev pub IsThereFor : World → Uses → Option (ℕ → ℕ) → List ℕ → TaskRecord → Role → Type 0
IsThereFor w n o known t (Taken k) = IsThere w o k t.value
IsThereFor w n o known t Leaves = (v : ℕ) → Contains known v → n v ≡ None
IsThereFor w n o known t _ = Unit

-- registers hold what was left there
abbrev pub StillThere : Option (ℕ → ℕ) → State → Type 0
StillThere None s = Unit
StillThere (Some g) s = (r : ℕ) → r < 256 → s (Reg r) ≡ g r

-- the words that a value adds to those that are known
abbrev pub gained : TaskRecord → Role → List ℕ
gained t Plain = if t.gives then t.value ∷ [] else []
gained t (Taken k) = t.value ∷ []
gained t Calls = []
gained t Leaves = []

-- the words that a value passes in registers are at most eight
abbrev pub words_passed : Role → TaskRecord → ℕ
words_passed Plain t = 0
words_passed (Taken w) t = w
words_passed Calls t = length t.args
words_passed Leaves t = length t.args

abbrev pub PassesFew : TaskRecord → Type 0
PassesFew t = words_passed t.role t ≤ 8

-- the arguments of a value are known where it is computed, and what it takes is there
pub record IsKnown (w : World) (n : Uses) (o : Option (ℕ → ℕ)) (known : List ℕ) (t : TaskRecord) : Type 0 where
  pub args : (a : ℕ) → Contains t.args a → Contains known a
  pub few : PassesFew t
  pub there : IsThereFor w n o known t t.role

unfoldable pub AreKnown : World → (ℕ → Uses) → ℕ → Option (ℕ → ℕ) → List ℕ → List TaskRecord → Type 0
AreKnown w next k o known [] = Unit
AreKnown w next k o known (t ∷ ts) =
    IsKnown w (next (k + 1)) o known t × AreKnown w next (k + 1) (left_by w o t t.role) (known ++ gained t t.role) ts

-- what is known after all values
unfoldable pub all_known : List ℕ → List TaskRecord → List ℕ
all_known known [] = known
all_known known (t ∷ ts) = all_known (known ++ gained t t.role) ts

-- what is taken has no arguments
abbrev pub IsBare : Role → TaskRecord → Type 0
IsBare (Taken k) t = t.args ≡ []
IsBare _ t = Unit

-- a value's number is new, and its arguments leave a register
pub record IsFresh (count : ℕ) (known : List ℕ) (t : TaskRecord) : Type 0 where
  pub new : Contains known t.value → ⊥
  pub less : length t.args < count
  pub bare : IsBare t.role t

unfoldable pub AreFresh : ℕ → List ℕ → List TaskRecord → Type 0
AreFresh count known [] = Unit
AreFresh count known (t ∷ ts) = IsFresh count known t × AreFresh count (known ++ gained t t.role) ts

-- registers hold values that are known, none of them twice
pub record Stands (rs : Registers) (known : List ℕ) : Type 0 where
  pub one : (q r v : ℕ) → slice_index_or rs q None ≡ Some v → slice_index_or rs r None ≡ Some v → q ≡ r
  pub every : (q v : ℕ) → slice_index_or rs q None ≡ Some v → Contains known v

-- the numbers of the values' arguments
abbrev pub arguments : World → List TaskRecord → List (ℕ × List ℕ)
arguments w ts = map (λ t. (t.value, map w.number t.args)) ts
