-- Which values of a block come before which, as far as the block alone says.
use Rattle.std.specs.Prelude.{◌≡◌, ℕ, ◌&&◌, ◌||◌, not, Bool, true, false, Some, ◌⊎◌}
use Rattle.std.specs.List.{Contains, slice_get}
use Rattle.bk_ops.specs.declared.family.Family.{Family}
use Rattle.bk_ops.specs.declared.family.Family.TheVariants as op
use Rattle.bk_func.specs.Records.{ValueRecord, BlockRecord}
use Rattle.bk_func.specs.Numbers.{is_copy, is_mem}
use Rattle.bk_func.specs.Form.Before.{IsListed, IsLoad, IsNilCheck, IsResult, IsTakenBy, Needs}
use Rattle.bk_func.specs.Form.States.{CopiesMemory, NamesAt}
use Rattle.bk_func.specs.Form.Text.{Defines}

-- each value of the block has a number of its own
abbrev pub HasOwnNumbers : BlockRecord → Type 0
HasOwnNumbers b = (i j : ℕ) (u v : ValueRecord) → slice_get b.values i ≡ Some u → slice_get b.values j ≡ Some v → u.id ≡ v.id → i ≡ j

-- what a number stands for: the number itself, or through copies of memory in the block what they copy
pub data StandsFor (b : BlockRecord) : ℕ → ℕ → Type 0 where
  outside : (n : ℕ) → ¬ Defines b n → StandsFor b n n
  itself : (v : ValueRecord) → Contains b.values v → ¬ CopiesMemory v → StandsFor b v.id v.id
  copied : (v : ValueRecord) (n m : ℕ) → Contains b.values v → CopiesMemory v → slice_get v.args 0 ≡ Some n → StandsFor b n m → StandsFor b v.id m

-- the value names the state with this number
abbrev pub Names : BlockRecord → ValueRecord → ℕ → Type 0
Names b v s = (k n : ℕ) × NamesAt v k × (slice_get v.args k ≡ Some n) × StandsFor b n s

abbrev pub is_call : Family → Bool
is_call op.StaticLECall = true
is_call _ = false

abbrev pub are_results : Family → Bool
are_results op.MakeResult = true
are_results _ = false

-- the value gives a state of memory: a call, or a value of memory that is neither a copy nor the results of the function
abbrev pub is_state : ValueRecord → Bool
is_state v = (is_call v.op.family || is_mem v.ty) && not (is_copy v.op.family) && not (are_results v.op.family)

-- a nil check of the state, and a load of it
abbrev pub Checks : BlockRecord → ValueRecord → ℕ → Type 0
Checks b v s = Contains b.values v × IsNilCheck v × Names b v s

abbrev pub Loads : BlockRecord → ValueRecord → ℕ → Type 0
Loads b v s = Contains b.values v × IsLoad v × Names b v s

-- u comes right before v
pub data ComesBefore (b : BlockRecord) : ValueRecord → ValueRecord → Type 0 where
  -- a value follows its arguments
  argument : (u v : ValueRecord) → IsTakenBy b u v → ComesBefore b u v
  -- a memory value follows the loads, nil checks and results that name the state before it
  state : (u v : ValueRecord) (s : ℕ) → Contains b.values u → IsLoad u ⊎ IsNilCheck u ⊎ IsResult u → Names b u s
      → Contains b.values v → is_state v ≡ true → Names b v s → ComesBefore b u v
  -- the nil checks of a state follow each other as listed
  checks : (u v : ValueRecord) (s : ℕ) → Checks b u s → Checks b v s → IsListed b u v → ComesBefore b u v
  -- a load that a nil check of its state needs follows those listed before the first that needs it
  needed : (u v w : ValueRecord) (s : ℕ) → Checks b u s → Loads b v s → Checks b w s → Needs b w v
      → ((x : ValueRecord) → Checks b x s → Needs b x v → ¬ IsListed b x w) → IsListed b u w → ComesBefore b u v
  -- a load that no nil check of its state needs follows them all
  unneeded : (u v : ValueRecord) (s : ℕ) → Checks b u s → Loads b v s → ((x : ValueRecord) → Checks b x s → ¬ Needs b x v)
      → ComesBefore b u v

-- u comes before v
pub data Precedes (b : BlockRecord) : ValueRecord → ValueRecord → Type 0 where
  right : (u v : ValueRecord) → ComesBefore b u v → Precedes b u v
  onward : (t u v : ValueRecord) → ComesBefore b t u → Precedes b u v → Precedes b t v
