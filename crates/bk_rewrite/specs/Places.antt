-- Where the values of a function stand.
use Rattle.std.specs.Prelude.{◌≡◌, ℕ, ◌+◌, ◌-◌, ◌<◌, ◌^◌, ◌++◌, List, Option, Some, None, length, slice_get, slice_set, sum_by}
use Rattle.bk_func.specs.Records.{ValueRecord, BlockRecord, FuncRecord}
use Rattle.bk_func.specs.Edits.{greatest_value}

abbrev pub in_block : Option BlockRecord → ℕ → Option ValueRecord
in_block None p = None
in_block (Some x) p = slice_get x.values p

-- the value at a place of a block, both counted from 0
abbrev pub value_in : List BlockRecord → ℕ → ℕ → Option ValueRecord
value_in bs b p = in_block (slice_get bs b) p

abbrev pub value_at : FuncRecord → ℕ → ℕ → Option ValueRecord
value_at f b p = value_in f.blocks b p

-- a value with this number stands there
abbrev pub StandsAmong : List ValueRecord → ℕ → ℕ → Type 0
StandsAmong vs id p = (v : ValueRecord) × (slice_get vs p ≡ Some v) × (v.id ≡ id)

abbrev pub StandsIn : List BlockRecord → ℕ → ℕ → ℕ → Type 0
StandsIn bs id b p = (v : ValueRecord) × (value_in bs b p ≡ Some v) × (v.id ≡ id)

abbrev pub StandsAt : FuncRecord → ℕ → ℕ → ℕ → Type 0
StandsAt f id b p = StandsIn f.blocks id b p

-- no two values have one number
abbrev pub HasNumbers : FuncRecord → Type 0
HasNumbers f = (id b p c q : ℕ) → StandsAt f id b p → StandsAt f id c q → (b ≡ c) × (p ≡ q)

abbrev pub count_values : FuncRecord → ℕ
count_values f = sum_by (λ b. length b.values) f.blocks

-- the most values that a function has while it is rewritten
abbrev pub value_limit : ℕ
value_limit = 32768

-- as many values as may be made have numbers of 32 bits
abbrev pub HasRoom : FuncRecord → Type 0
HasRoom f = greatest_value f + (value_limit - count_values f) < 2 ^ 32

-- the block with this value at the place, and these values last
abbrev pub with_made : ℕ → ValueRecord → List ValueRecord → BlockRecord → BlockRecord
with_made p root made b = record b { values = slice_set (b.values ++ made) p root }

abbrev pub in_place : List BlockRecord → ℕ → Option BlockRecord → (BlockRecord → BlockRecord) → List BlockRecord
in_place bs b None change = bs
in_place bs b (Some x) change = slice_set bs b (change x)

-- the function with the block at the place changed
abbrev pub with_block : FuncRecord → ℕ → (BlockRecord → BlockRecord) → FuncRecord
with_block f b change = record f { blocks = in_place f.blocks b (slice_get f.blocks b) change }
