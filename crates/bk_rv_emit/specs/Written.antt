-- The forms of jumps and branches.
use Rattle.std.specs.Prelude.{ℕ, ℤ, pos, ◌-ℤ◌, ◌==◌, Bool, not, if◌then◌else◌, List, [], ◌∷◌}
use Rattle.bk_rv_isa.specs.declared.inst.BranchOp.TheVariants.{Beq, Bne}
use Rattle.bk_rv_isa.specs.declared.inst.Inst.{Inst}
use Rattle.bk_rv_isa.specs.declared.inst.Inst.TheVariants as i
use Rattle.bk_rv_emit.specs.Numbers.{upper, lower}

-- a jump of one word, or of two by way of x31
abbrev pub jump_form : ℕ → ℤ → List Inst
jump_form size d = if size == 1 then i.Jal 0 d ∷ [] else i.Auipc 31 (upper d) ∷ i.Jalr 0 31 (lower d) ∷ []

-- a branch of one word, where the bit in x31 is so
abbrev pub branch_on : Bool → ℤ → Inst
branch_on bit bytes = i.Branch (if bit then Bne else Beq) 31 0 bytes

-- a branch of one word, or the opposite branch over a jump of one word or of two, which begins one word behind it
abbrev pub branch_form : Bool → ℕ → ℤ → List Inst
branch_form bit size d =
    if size == 1 then branch_on bit d ∷ []
    else (if size == 2 then branch_on (not bit) (pos 8) ∷ i.Jal 0 (d -ℤ pos 4) ∷ []
    else branch_on (not bit) (pos 12) ∷ i.Auipc 31 (upper (d -ℤ pos 4)) ∷ i.Jalr 0 31 (lower (d -ℤ pos 4)) ∷ [])
