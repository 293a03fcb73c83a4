-- Words of the frame, near the stack pointer and far from it.
use Rattle.std.specs.Prelude.{ℕ, pos, Bool, nat_lt, if◌then◌else◌, List, [], ◌∷◌}
use Rattle.bk_rv_isa.specs.declared.inst.RegisterOp.TheVariants as register
use Rattle.bk_rv_isa.specs.declared.inst.LoadOp.TheVariants.{Ld}
use Rattle.bk_rv_isa.specs.declared.inst.StoreOp.TheVariants.{Sd}
use Rattle.bk_rv_isa.specs.declared.inst.Inst.{Inst}
use Rattle.bk_rv_isa.specs.declared.inst.Inst.TheVariants as i
use Rattle.bk_rv_emit.specs.Numbers.{upper, lower}

-- an offset that a load or a store reaches from the stack pointer
abbrev pub is_near : ℕ → Bool
is_near n = nat_lt n 2048

-- the word at an offset from the stack pointer is loaded; t takes part of the address of a far one
abbrev pub load_by : ℕ → ℕ → ℕ → List Inst
load_by t d n =
    if is_near n then i.Load Ld d 2 (pos n) ∷ []
    else i.Lui t (upper (pos n)) ∷ i.Op register.Add t t 2 ∷ i.Load Ld d t (lower (pos n)) ∷ []

-- the same for a store
abbrev pub store_by : ℕ → ℕ → ℕ → List Inst
store_by t a n =
    if is_near n then i.Store Sd a 2 (pos n) ∷ []
    else i.Lui t (upper (pos n)) ∷ i.Op register.Add t t 2 ∷ i.Store Sd a t (lower (pos n)) ∷ []

-- between the entry and the return x1 is free for addresses
abbrev pub load_at : ℕ → ℕ → List Inst
load_at d n = load_by 1 d n

abbrev pub store_at : ℕ → ℕ → List Inst
store_at a n = store_by 1 a n
