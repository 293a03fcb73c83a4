-- The numbers that the values of a function may have in one call of it, as far as the rules over machine words fix them.
--
-- What comes from outside has its own number: a phi, an argument, the result of a call; a copy has that of what it copies. The
-- value of an op may be any number with the low bits that the op gives at the numbers of its arguments, and so may an address and a
-- load, with the low bits of what stands in the window: a machine's load of 32 bits brings their sign along.
use Rattle.std.specs.Prelude.{ℕ, ◌≡◌, map, Option, Some, None}
use Rattle.bk_ops.specs.Values.{op_value}
use Rattle.bk_func.specs.Records.{ValueRecord, FuncRecord}
use Rattle.bk_func.specs.Numbers.{Program, Env, Origin, address, loaded, computed, origin_of, value_of, number_by}
use Rattle.bk_rule.specs.WordSound.{bits, Agree}

-- a number with the low bits of what the op gives; any number where the op gives none
abbrev pub HasLow : Option ℕ → ℕ → ℕ → Type 0
HasLow None w n = Unit {0}
HasLow (Some x) w n = Agree w n x

-- the value may have the number n where m has those of its arguments
abbrev pub MayBe : Origin → Program → FuncRecord → Env → (ℕ → ℕ) → ValueRecord → ℕ → Type 0
MayBe computed p f e m v n = HasLow (op_value v.op v.int (map m v.args) p.target) (bits p.target v) n
MayBe loaded p f e m v n = Agree (bits p.target v) n (number_by loaded p f e m v)
MayBe address p f e m v n = Agree (bits p.target v) n (number_by address p f e m v)
MayBe o p f e m v n = n ≡ number_by o p f e m v

-- m gives each value a number that it may have
abbrev pub Possible : Program → FuncRecord → Env → (ℕ → ℕ) → Type 0
Possible p f e m = (id : ℕ) (v : ValueRecord) → value_of f id ≡ Some v → MayBe (origin_of v.op.family) p f e m v (m id)

-- m gives each value the one number that its op gives at the numbers of its arguments
abbrev pub Exact : Program → FuncRecord → Env → (ℕ → ℕ) → Type 0
Exact p f e m = (id : ℕ) (v : ValueRecord) → value_of f id ≡ Some v → m id ≡ number_by (origin_of v.op.family) p f e m v
