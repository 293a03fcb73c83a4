-- The states of memory, and the chain that they form along every walk.
use Rattle.std.specs.Prelude.{◌≡◌, ℕ, ◌+◌, ◌<◌, ◌==◌, true, false, List, [], ◌∷◌, ◌++◌, length, Some, ◌⊎◌, ◌↔◌}
use Rattle.std.specs.List.{Contains, IsDistinct, slice_get}
use Rattle.bk_ops.specs.Table.{info_of}
use Rattle.bk_ops.specs.Families.{is_call_result}
use Rattle.bk_ops.specs.declared.family.Family.TheVariants.{Copy, InitMem, StaticLECall, MakeResult}
use Rattle.bk_ops.specs.declared.types.Ty.TheVariants.{Mem, Tuple}
use Rattle.bk_func.specs.Records.{ValueRecord, BlockRecord, FuncRecord}
use Rattle.bk_func.specs.Form.Text.{HasBlock, HasValue, Defines, IsEntry, IsPhi, IsFirstIn}
use Rattle.bk_func.specs.Form.Walks.{Walk, IsReached}

-- the value copies memory
abbrev pub CopiesMemory : ValueRecord → Type 0
CopiesMemory v = (v.op.family ≡ Copy) × (v.ty ≡ Mem)

-- the value is the first `InitMem` of the entry
abbrev pub IsFirstInit : FuncRecord → BlockRecord → ValueRecord → Type 0
IsFirstInit f b v = IsEntry f b × IsFirstIn (λ u. u.op.family ≡ InitMem) b.values v

-- the value gives a state of memory: a call, or a value of memory that is neither a copy nor the results of the
-- function; of the first states only the first of all
abbrev pub IsState : FuncRecord → BlockRecord → ValueRecord → Type 0
IsState f b v = HasValue f b v × ¬ (v.op.family ≡ Copy) × ¬ (v.op.family ≡ MakeResult)
    × ((v.op.family ≡ StaticLECall) ⊎ (v.ty ≡ Mem)) × (v.op.family ≡ InitMem → IsFirstInit f b v)

-- a number of the block's states
abbrev pub IsStateOf : FuncRecord → BlockRecord → ℕ → Type 0
IsStateOf f b n = (v : ValueRecord) × IsState f b v × (v.id ≡ n)

-- what a number stands for: the number itself, or through copies of memory what they copy
pub data StandsFor (f : FuncRecord) : ℕ → ℕ → Type 0 where
  itself : (b : BlockRecord) (v : ValueRecord) → HasValue f b v → ¬ CopiesMemory v → StandsFor f v.id v.id
  copied : (b : BlockRecord) (v : ValueRecord) (n m : ℕ) → HasValue f b v → CopiesMemory v → slice_get v.args 0 ≡ Some n → StandsFor f n m
      → StandsFor f v.id m

-- the place of the argument that names a state: of a result its call, else the last of an op with memory; a phi has none
abbrev pub NamesAt : ValueRecord → ℕ → Type 0
NamesAt v k = (CopiesMemory v × (k ≡ 0)) ⊎ ((is_call_result v.op.family ≡ true) × (k ≡ 0))
    ⊎ (((info_of v.op).memory ≡ true) × (k + 1 ≡ length v.args))

-- the value names the state with this number
abbrev pub Names : FuncRecord → ValueRecord → ℕ → Type 0
Names f v s = (k : ℕ) × (n : ℕ) × NamesAt v k × (slice_get v.args k ≡ Some n) × StandsFor f n s

-- each state of the list names the one behind it, and the last no state of the block
pub data IsLinked (f : FuncRecord) (b : BlockRecord) : List ℕ → Type 0 where
  first : (v : ValueRecord) → HasValue f b v → ((s : ℕ) → Names f v s → ¬ IsStateOf f b s) → IsLinked f b (v.id ∷ [])
  more : (v : ValueRecord) (n : ℕ) (ms : List ℕ) → HasValue f b v → Names f v n → IsLinked f b (n ∷ ms) → IsLinked f b (v.id ∷ n ∷ ms)

-- the block's states as one chain, the last state first
pub record IsChain (f : FuncRecord) (b : BlockRecord) (ms : List ℕ) : Type 0 where
  pub states : (n : ℕ) → Contains ms n ↔ IsStateOf f b n
  pub distinct : IsDistinct (λ m n. m == n) ms
  pub linked : IsLinked f b ms

-- the state at the end of a walk
pub data Carries (f : FuncRecord) : List BlockRecord → ℕ → Type 0 where
  made : (b : BlockRecord) (w : List BlockRecord) (s : ℕ) (ms : List ℕ) → IsChain f b (s ∷ ms) → Carries f (b ∷ w) s
  kept : (b : BlockRecord) (w : List BlockRecord) (s : ℕ) → ((n : ℕ) → ¬ IsStateOf f b n) → Carries f w s → Carries f (b ∷ w) s

-- the state on all walks to the block
abbrev pub IsFirstState : FuncRecord → BlockRecord → ℕ → Type 0
IsFirstState f b s = (w : List BlockRecord) → Walk f (b ∷ w) → Carries f w s

-- the state on all walks to the end of the block
abbrev pub IsLastState : FuncRecord → BlockRecord → ℕ → Type 0
IsLastState f b s = (w : List BlockRecord) → Walk f (b ∷ w) → Carries f (b ∷ w) s

-- the first state of a chain chooses among others or is the first of all, or names the one that walks lead to the block with
abbrev pub Starts : FuncRecord → BlockRecord → ℕ → Type 0
Starts f b m = (v : ValueRecord) × HasValue f b v × (v.id ≡ m)
    × (IsPhi v ⊎ (v.op.family ≡ InitMem) ⊎ ((s : ℕ) × Names f v s × IsFirstState f b s))

-- the block's states, if it has any, are one chain from its first state
abbrev pub HasChain : FuncRecord → BlockRecord → Type 0
HasChain f b = ((n : ℕ) → ¬ IsStateOf f b n) ⊎ ((ms : List ℕ) × (m : ℕ) × IsChain f b (ms ++ m ∷ []) × Starts f b m)

-- the block has a phi of memory
abbrev pub HasMemoryPhi : FuncRecord → BlockRecord → Type 0
HasMemoryPhi f b = (v : ValueRecord) × IsState f b v × IsPhi v

-- the number is that of a state that the values of the block may name
abbrev pub IsStateIn : FuncRecord → BlockRecord → ℕ → Type 0
IsStateIn f b s = IsStateOf f b s ⊎ (¬ HasMemoryPhi f b × IsFirstState f b s)

-- a control that is memory, or the results of another block, is the block's last state or names it
abbrev pub EndsWithState : FuncRecord → BlockRecord → Type 0
EndsWithState f b = (n m : ℕ) (c : BlockRecord) (v : ValueRecord) → b.control ≡ Some n → StandsFor f n m → HasValue f c v → v.id ≡ m
    → (v.op.family ≡ MakeResult → ¬ (c.id ≡ b.id) → (s : ℕ) × Names f v s × IsLastState f b s)
    × (¬ (v.op.family ≡ MakeResult) → v.ty ≡ Mem → IsLastState f b m)

-- the entry has a first state, and a block that walks reach has a chain and ends with its last state
pub record KeepsStates (f : FuncRecord) (b : BlockRecord) : Type 0 where
  pub first : IsEntry f b → (v : ValueRecord) × Contains b.values v × (v.op.family ≡ InitMem)
  pub chain : IsReached f b → HasChain f b
  pub last : IsReached f b → EndsWithState f b

-- a phi of memory takes the last state of each predecessor that is reached
abbrev pub TakesLastStates : FuncRecord → BlockRecord → ValueRecord → Type 0
TakesLastStates f b v = (k n : ℕ) (p : BlockRecord) → slice_get v.args k ≡ Some n → slice_get b.preds k ≡ Some p.id → HasBlock f p → IsReached f p
    → (s : ℕ) × StandsFor f n s × IsLastState f p s

-- results are the control of their block and of no other
abbrev pub EndsItsBlock : FuncRecord → BlockRecord → ValueRecord → Type 0
EndsItsBlock f b v = (b.control ≡ Some v.id) × ((c : BlockRecord) → HasBlock f c → c.control ≡ Some v.id → c.id ≡ b.id)

-- what a value of the block must do with memory
pub record KeepsMemory (f : FuncRecord) (b : BlockRecord) (v : ValueRecord) : Type 0 where
  pub first : v.op.family ≡ InitMem → IsFirstInit f b v
  pub phi : IsPhi v → v.ty ≡ Mem → TakesLastStates f b v
  pub call : is_call_result v.op.family ≡ true → (n : ℕ) → slice_get v.args 0 ≡ Some n → Defines b n
  pub results : v.op.family ≡ MakeResult → v.ty ≡ Tuple → EndsItsBlock f b v
  pub last : v.op.family ≡ MakeResult → IsReached f b → (s : ℕ) × Names f v s × IsLastState f b s
  pub names : (k : ℕ) → ¬ IsPhi v → ¬ (v.op.family ≡ MakeResult) → is_call_result v.op.family ≡ false → IsReached f b
      → NamesAt v k → k < length v.args → (s : ℕ) × Names f v s × IsStateIn f b s
