-- What a function begins and ends with, copies between registers, and the test of a bit.
use Rattle.std.specs.Prelude.{ℕ, pos, neg_ℤ, ◌-◌, Bool, nat_le, if◌then◌else◌, List, [], ◌∷◌, ◌++◌}
use Rattle.bk_rv_isa.specs.declared.inst.ImmediateOp.TheVariants.{Addi, Andi}
use Rattle.bk_rv_isa.specs.declared.inst.RegisterOp.TheVariants.{Add, Sub}
use Rattle.bk_rv_isa.specs.declared.inst.BranchOp.TheVariants.{Bgeu}
use Rattle.bk_rv_isa.specs.declared.inst.Inst.{Inst}
use Rattle.bk_rv_isa.specs.declared.inst.Inst.TheVariants as i
use Rattle.bk_rv_emit.specs.Numbers.{upper, lower}
use Rattle.bk_rv_emit.specs.Words.{load_by, store_by}

-- the frame's bytes in x31
abbrev pub frame_bytes : ℕ → List Inst
frame_bytes f = i.Lui 31 (upper (pos f)) ∷ i.OpImm Addi 31 31 (lower (pos f)) ∷ []

-- a frame whose bytes one instruction adds and takes away
abbrev pub is_short : ℕ → Bool
is_short f = nat_le f 2040

-- x31 is where the stack pointer goes
abbrev pub below : ℕ → List Inst
below f = if is_short f then i.OpImm Addi 31 2 (neg_ℤ (pos f)) ∷ [] else frame_bytes f ++ i.Op Sub 31 2 31 ∷ []

-- trap 5 where the stack pointer would go below the bound, else it goes there
abbrev pub guard : List Inst
guard = i.Branch Bgeu 31 27 (pos 12) ∷ i.OpImm Addi 31 0 (pos 5) ∷ i.Ebreak ∷ i.OpImm Addi 2 31 (pos 0) ∷ []

-- trap 5 where the frame exceeds the stack that is left, else the frame is made and the return address saved
abbrev pub entry : ℕ → List Inst
entry f = below f ++ (guard ++ store_by 31 1 (f - 8))

-- the frame is given back
abbrev pub above : ℕ → List Inst
above f = if is_short f then i.OpImm Addi 2 2 (pos f) ∷ [] else frame_bytes f ++ i.Op Add 2 2 31 ∷ []

-- the return address is loaded, the frame given back, and the function returns
abbrev pub leave : ℕ → List Inst
leave f = load_by 31 1 (f - 8) ++ (above f ++ i.Jalr 0 1 (pos 0) ∷ [])

-- a register is copied from another one
abbrev pub copy : ℕ → ℕ → List Inst
copy d a = i.OpImm Addi d a (pos 0) ∷ []

-- x31 is the low bit of a register
abbrev pub test : ℕ → List Inst
test control = i.OpImm Andi 31 control (pos 1) ∷ []
