-- The lines of the steps and the ends of blocks, in a frame.
use Rattle.std.specs.Prelude.{ℕ, ◌+◌, ◌*◌, ◌==◌, true, false, if◌then◌else◌, List, [], ◌∷◌, ◌++◌, Option, Some, None, unwrap_or, slice_get}
use Rattle.bk_func.specs.declared.parts.Kind.{Kind}
use Rattle.bk_func.specs.declared.parts.Kind.TheVariants.{Plain, If, First, Ret, Exit}
use Rattle.bk_func.specs.declared.parts.Loc.{Loc}
use Rattle.bk_func.specs.declared.parts.Loc.TheVariants.{Reg, Slot, Swap}
use Rattle.bk_func.specs.Records.{PlacedBlockRecord}
use Rattle.bk_emit.specs.declared.lines.Line.{Line}
use Rattle.bk_emit.specs.declared.lines.Line.TheVariants as line
use Rattle.bk_emit.specs.declared.table.Regs.{Regs}
use Rattle.bk_emit.specs.declared.blocks.Frame.{Frame}
use Rattle.bk_emit.specs.declared.blocks.Spot.{Spot}
use Rattle.bk_emit.specs.declared.blocks.Spot.TheVariants.{Register, Word}
use Rattle.bk_emit.specs.Forms.{Forms}

-- slots stand behind the words of calls
abbrev pub slot_offset : Forms → Frame → ℕ → ℕ
slot_offset m f n = m.word * (f.out + n)

abbrev pub load_slot : Forms → Frame → ℕ → ℕ → List Line
load_slot m f reg n = m.load reg (slot_offset m f n)

abbrev pub store_slot : Forms → Frame → ℕ → ℕ → List Line
store_slot m f reg n = m.store reg (slot_offset m f n)

-- where a value is: the word for exchanges stands behind the slots
abbrev pub spot_of : Frame → Loc → Spot
spot_of f (Reg r) = Register r
spot_of f (Slot n) = Word n
spot_of f Swap = Word f.slots

abbrev pub move_by : Forms → Frame → Spot → Spot → List Line
move_by m f (Register a) (Register d) = m.copy d a
move_by m f (Word a) (Register d) = load_slot m f d a
move_by m f (Register a) (Word d) = store_slot m f a d
move_by m f (Word a) (Word d) = load_slot m f m.scratch a ++ store_slot m f m.scratch d

-- a move of an edge; from word to word it goes through the register that is free
abbrev pub move_lines : Forms → Frame → Loc → Loc → List Line
move_lines m f source destination = move_by m f (spot_of f source) (spot_of f destination)

-- the registers of a unit; those that it does not have are 0
abbrev pub reg_at : List ℕ → ℕ → ℕ
reg_at args k = unwrap_or (slice_get args k) 0

abbrev pub regs_of : List ℕ → Option ℕ → Regs
regs_of args place = record {
  d = unwrap_or place 0;
  a = reg_at args 0;
  b = reg_at args 1;
  c = reg_at args 2;
  e = reg_at args 3;
}

-- a jump to a block that is not the next
abbrev pub jump_from : ℕ → Option ℕ → List Line
jump_from target (Some next) = if next == target then [] else line.Jump target ∷ []
jump_from target None = line.Jump target ∷ []

abbrev pub jump : Option ℕ → Option ℕ → List Line
jump (Some target) next = jump_from target next
jump None next = []

-- to the first block where the bit is 1, else to the second; the branch is turned where the first is the next
abbrev pub branch_to : ℕ → ℕ → Option ℕ → List Line
branch_to first second (Some next) =
    if next == first then line.Branch false second ∷ [] else line.Branch true first ∷ jump_from second (Some next)
branch_to first second None = line.Branch true first ∷ jump_from second None

-- a branch on the low bit of the control
abbrev pub branch : Forms → ℕ → List ℕ → Option ℕ → List Line
branch m control (first ∷ second ∷ []) next = m.test control ++ branch_to first second next
branch m control _ next = []

abbrev pub end_by : Forms → Kind → Option ℕ → List ℕ → Option ℕ → ℕ → List Line
end_by m Plain control succs next f = jump (slice_get succs 0) next
end_by m First control succs next f = jump (slice_get succs 0) next
end_by m If control succs next f = branch m (unwrap_or control 0) succs next
end_by m Ret control succs next f = m.leave f
end_by m Exit control succs next f = m.exit

-- the end of a block, behind which the next stands, in a frame of so many bytes
abbrev pub block_end : Forms → PlacedBlockRecord → Option ℕ → ℕ → List Line
block_end m b next f = end_by m b.kind b.control b.succs next f
