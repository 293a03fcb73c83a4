-- The words of branches.
use Rattle.std.specs.Prelude.{◌≡◌, ℕ, ℤ, pos, ◌-ℤ◌, int_div, Bool, true, false, if◌then◌else◌, List, [], ◌∷◌, length, replicate}
use Rattle.bk_num.specs.Word.{fits_signed}
use Rattle.bk_arm_isa.specs.declared.Condition.{Condition}
use Rattle.bk_arm_isa.specs.declared.Condition.TheVariants.{Al, Eq, Ne}
use Rattle.bk_arm_isa.specs.declared.Inst.{Inst}
use Rattle.bk_arm_isa.specs.declared.Inst.TheVariants as i
use Rattle.bk_fixup.specs.declared.sizes.Branch.{Branch}
use Rattle.bk_arm_emit.specs.Insts.{fault}
use Rattle.bk_arm_emit.specs.Lines.{word_of}

-- each branch has one word
abbrev pub AreSingle : List Branch → List ℕ → Type 0
AreSingle branches sizes = sizes ≡ replicate (length branches) 1

-- the words over which a branch of so many bytes goes: it counts from the second next instruction
abbrev pub steps : ℤ → ℤ
steps d = int_div (d -ℤ pos 8) (pos 4)

-- a branch where a condition holds, over a distance in bytes; one that 24 bits don't hold faults
abbrev pub branch_by : Condition → ℤ → Inst
branch_by c d = if fits_signed 24 (steps d) then i.B c (steps d) else fault

-- where the bit that was tested is 1, or where it is 0
abbrev pub condition_of : Bool → Condition
condition_of true = Ne
condition_of false = Eq

abbrev pub jump_words : ℤ → List ℕ
jump_words d = word_of (branch_by Al d) ∷ []

abbrev pub branch_words : Bool → ℤ → List ℕ
branch_words bit d = word_of (branch_by (condition_of bit) d) ∷ []
