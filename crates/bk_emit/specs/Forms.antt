-- What the code of a machine is made of.
use Rattle.std.specs.Prelude.{ℕ, ℤ, Bool, List, Option}
use Rattle.bk_func.specs.Records.{ValueRecord}
use Rattle.bk_piece.specs.declared.Handle.{Handle}
use Rattle.bk_fixup.specs.declared.sizes.Branch.{Branch}
use Rattle.bk_emit.specs.declared.lines.Line.{Line}
use Rattle.bk_emit.specs.declared.table.Regs.{Regs}

-- a value and the handle of its key
abbrev pub Entry : Type 0
Entry = ValueRecord × Option Handle

-- what the code of a machine is made of; an offset counts bytes from the stack pointer, and a distance bytes from one place in
-- the code to another
pub record Forms : Type 1 where
  -- the bytes of a word of the frame, and the register that is free inside a unit
  pub word : ℕ
  pub scratch : ℕ
  -- what a function begins with in a frame of so many bytes, and how it returns from it
  pub entry : ℕ → List Line
  pub leave : ℕ → List Line
  -- a register is loaded from the word at an offset, stored there, or copied from another one
  pub load : ℕ → ℕ → List Line
  pub store : ℕ → ℕ → List Line
  pub copy : ℕ → ℕ → List Line
  -- the unit of a value with these registers, in a frame of so many bytes
  pub unit : Entry → Regs → ℕ → List Line
  -- the low bit of a register is tested for the branch behind it
  pub test : ℕ → List Line
  -- the end of a program
  pub exit : List Line
  -- sizes in words that the branches may have
  pub sized : List Branch → List ℕ → Type 0
  -- the words of a jump of so many words over a distance, and of a branch where the bit that was tested is so
  pub jump : ℕ → ℤ → List ℕ
  pub branch : Bool → ℕ → ℤ → List ℕ
