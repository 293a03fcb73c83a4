-- Words of the frame, near the stack pointer and far from it.
use Rattle.std.specs.Prelude.{ℕ, Bool, nat_lt, if◌then◌else◌, List, [], ◌∷◌, ◌++◌}
use Rattle.bk_arm_isa.specs.declared.DataOp.TheVariants.{Add}
use Rattle.bk_arm_isa.specs.declared.Inst.{Inst}
use Rattle.bk_arm_emit.specs.Insts.{number, compute, plain, load, store}

-- an offset that a load or a store reaches from the stack pointer
abbrev pub is_near : ℕ → Bool
is_near n = nat_lt n 4096

-- the address of a far word in r
abbrev pub far : ℕ → ℕ → List Inst
far r n = number r n ++ compute Add r r (plain 13) ∷ []

-- the word at an offset from the stack pointer is loaded; r takes the address of a far one
abbrev pub load_by : ℕ → ℕ → ℕ → List Inst
load_by r d n = if is_near n then load 4 d 13 n ∷ [] else far r n ++ load 4 d r 0 ∷ []

-- the same for a store
abbrev pub store_by : ℕ → ℕ → ℕ → List Inst
store_by r a n = if is_near n then store 4 a 13 n ∷ [] else far r n ++ store 4 a r 0 ∷ []

-- between the entry and the return r14 is free for addresses
abbrev pub load_at : ℕ → ℕ → List Inst
load_at d n = load_by 14 d n

abbrev pub store_at : ℕ → ℕ → List Inst
store_at a n = store_by 14 a n
