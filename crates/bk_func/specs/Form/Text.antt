-- A function as its text: blocks, values and the numbers that they bear.
use Rattle.std.specs.Prelude.{◌≡◌, ℕ, ◌<◌, List, Some}
use Rattle.std.specs.List.{Contains, slice_get}
use Rattle.bk_ops.specs.declared.family.Family.TheVariants.{Phi}
use Rattle.bk_func.specs.Records.{ValueRecord, BlockRecord, FuncRecord}

abbrev pub HasBlock : FuncRecord → BlockRecord → Type 0
HasBlock f b = Contains f.blocks b

-- the value stands in the block
abbrev pub HasValue : FuncRecord → BlockRecord → ValueRecord → Type 0
HasValue f b v = HasBlock f b × Contains b.values v

-- a value of the block bears the number
abbrev pub Defines : BlockRecord → ℕ → Type 0
Defines b n = (v : ValueRecord) × Contains b.values v × (v.id ≡ n)

abbrev pub IsEntry : FuncRecord → BlockRecord → Type 0
IsEntry f b = slice_get f.blocks 0 ≡ Some b

-- the value is a phi, which takes an argument for each predecessor of its block
abbrev pub IsPhi : ValueRecord → Type 0
IsPhi v = v.op.family ≡ Phi

-- the first element of which the fact holds
abbrev pub IsFirstIn : {A : Type 0} → (A → Type 0) → List A → A → Type 0
IsFirstIn {A} P xs x = (i : ℕ) × (slice_get xs i ≡ Some x) × P x × ((j : ℕ) (y : A) → j < i → slice_get xs j ≡ Some y → ¬ P y)

-- the first element of which it does not hold
abbrev pub IsFirstNotIn : {A : Type 0} → (A → Type 0) → List A → A → Type 0
IsFirstNotIn {A} P xs x = (i : ℕ) × (slice_get xs i ≡ Some x) × ¬ P x × ((j : ℕ) (y : A) → j < i → slice_get xs j ≡ Some y → P y)
