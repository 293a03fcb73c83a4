-- What is done for the scheduled values of a block, one after the other, and what the registers hold then.
use Rattle.std.specs.Prelude.{ℕ, ◌+◌, Bool, if◌then◌else◌, List, [], ◌∷◌, ◌++◌, length, map, Option, None, Some}
use Rattle.bk_func.specs.declared.parts.Loc.{Loc}
use Rattle.bk_func.specs.declared.parts.Loc.TheVariants.{Reg, Slot}
use Rattle.bk_shuffle.specs.Sequence.{Move}
use Rattle.bk_alloc.specs.declared.acts.Role.{Role}
use Rattle.bk_alloc.specs.declared.acts.Role.TheVariants.{Plain, Taken, Calls, Leaves}
use Rattle.bk_alloc.specs.Registers.{Registers, Uses, register_of, holds, seat, put, freed, emptied}

-- a scheduled value: its number, its arguments that are words, and whether it gives a word itself
pub record TaskRecord : Type 0 where
  pub value : ℕ
  pub role : Role
  pub args : List ℕ
  pub gives : Bool

-- one thing done. Registers are given by their places in the order, slots by the numbers of their values
pub data ActRecord : Type 0 where
  -- the value's slot goes to the register
  load : (register value : ℕ) → ActRecord
  -- the value is computed from registers
  compute : (value : ℕ) (from : List ℕ) (to : Option ℕ) → ActRecord
  -- the value is in the register
  take : (value register : ℕ) → ActRecord
  -- the value is computed from so many words in the registers that pass words; what a call leaves in registers is its own
  call : (value words : ℕ) → ActRecord
  leave : (value words : ℕ) → ActRecord
  -- these moves, at once
  move_all : (moves : List Move) → ActRecord

-- the registers that pass words
abbrev pub passing : ℕ → ℕ
passing w = 5 + w

-- an argument that is in no register is loaded
abbrev pub fetched : Uses → List ℕ → Registers → ℕ → Registers
fetched n keep rs a = if holds rs a then rs else put rs (seat n keep rs) a

abbrev pub fetch : Uses → List ℕ → Registers → ℕ → List ActRecord
fetch n keep rs a = if holds rs a then [] else load (seat n keep rs) a ∷ []

unfoldable pub with_loads : Uses → List ℕ → List ℕ → Registers → Registers
with_loads n keep [] rs = rs
with_loads n keep (a ∷ bs) rs = with_loads n keep bs (fetched n keep rs a)

unfoldable pub loads : Uses → List ℕ → List ℕ → Registers → List ActRecord
loads n keep [] rs = []
loads n keep (a ∷ bs) rs = fetch n keep rs a ++ loads n keep bs (fetched n keep rs a)

-- a result takes a register
abbrev pub with_result : Uses → TaskRecord → Registers → Registers
with_result n t rs = if t.gives then put rs (seat n [] rs) t.value else rs

abbrev pub result_in : Uses → TaskRecord → Registers → Option ℕ
result_in n t rs = if t.gives then Some (seat n [] rs) else None

-- where a value is
unfoldable pub where_is : Registers → ℕ → Loc
where_is rs v = if holds rs v then Reg (register_of rs v) else Slot v

-- words go to the registers that pass them, from the w-th on
abbrev pub sends : Registers → ℕ → List ℕ → List Move
sends rs w [] = []
sends rs w (a ∷ bs) = (where_is rs a, Reg (passing w)) ∷ sends rs (w + 1) bs

-- after the arguments are loaded, registers whose values are used no more are free
abbrev pub before_result : Uses → TaskRecord → Registers → Registers
before_result n t rs = freed n (with_loads n t.args t.args rs)

abbrev pub after_role : Role → Uses → TaskRecord → Registers → Registers
after_role Plain n t rs = with_result n t (before_result n t rs)
after_role (Taken w) n t rs = put rs (passing w) t.value
after_role Calls n t rs = emptied rs
after_role Leaves n t rs = freed n rs

abbrev pub acts_of_role : Role → Uses → TaskRecord → Registers → List ActRecord
acts_of_role Plain n t rs =
    loads n t.args t.args rs ++ compute t.value (map (register_of (with_loads n t.args t.args rs)) t.args) (result_in n t (before_result n t rs)) ∷ []
acts_of_role (Taken w) n t rs = take t.value (passing w) ∷ []
acts_of_role Calls n t rs = move_all (sends rs 0 t.args) ∷ call t.value (length t.args) ∷ []
acts_of_role Leaves n t rs = move_all (sends rs 0 t.args) ∷ leave t.value (length t.args) ∷ []

-- the registers after a value, and what is done for it
unfoldable pub after_task : Uses → TaskRecord → Registers → Registers
after_task n t rs = after_role t.role n t rs

unfoldable pub acts_of : Uses → TaskRecord → Registers → List ActRecord
acts_of n t rs = acts_of_role t.role n t rs

-- values one after the other, the first standing behind k entries of the order
unfoldable pub after_tasks : (ℕ → Uses) → ℕ → List TaskRecord → Registers → Registers
after_tasks next k [] rs = rs
after_tasks next k (t ∷ ts) rs = after_tasks next (k + 1) ts (after_task (next (k + 1)) t rs)

unfoldable pub acts_of_tasks : (ℕ → Uses) → ℕ → List TaskRecord → Registers → List ActRecord
acts_of_tasks next k [] rs = []
acts_of_tasks next k (t ∷ ts) rs = acts_of (next (k + 1)) t rs ++ acts_of_tasks next (k + 1) ts (after_task (next (k + 1)) t rs)
