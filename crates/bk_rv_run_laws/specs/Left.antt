-- How a block is left.
use Rattle.std.specs.Prelude.{◌≡◌, ◌<◌, ◌≤◌, ℕ, pos, suc, ◌+◌, List, [], ◌∷◌, Option, Some, slice_get, slice_index}
use Rattle.bk_func.specs.declared.parts.Kind.TheVariants.{Plain, If, Exit}
use Rattle.bk_func.specs.Records.{BlockRecord, FuncRecord}
use Rattle.bk_func.specs.Numbers.{Program, numbers}
use Rattle.bk_func.specs.Edits.{block_of}
use Rattle.bk_func.specs.Meaning.{Activation, Entries, entered, edge_place, left_by}
use Rattle.bk_rv_isa.specs.declared.inst.ImmediateOp.TheVariants.{Addi}
use Rattle.bk_rv_isa.specs.declared.inst.Inst.TheVariants.{OpImm, Ebreak}
use Rattle.bk_rv_isa.specs.Machine.{Machine, HasAt, reg}
use Rattle.bk_emit.specs.declared.lines.Line.{Line}
use Rattle.bk_emit.specs.Blocks.{jump_from, branch}
use Rattle.bk_emit.specs.Code.{words_from}
use Rattle.bk_rv_emit.specs.Code as code
use Rattle.bk_rv_emit_laws.specs.Leaving.{IsWell}
use Rattle.bk_rv_emit_laws.specs.Jumps.{address}
use Rattle.bk_rv_emit_laws.specs.Ends.{Stands, LinesReach, IsNext, AreLow}
use Rattle.bk_run_laws.specs.Follows.{Follows}
use Rattle.bk_run_laws.specs.Standing.{EntryLaw}
use Rattle.bk_rv_run_laws.specs.Relation.{Image, Call, IsIn, IsBack, riscv64, standing}

-- the machine is where the lines of a block's end stand, with sizes that reach; the function begins at a place of the text, g gives
-- the place of each block in it, and the block that stands next has the next place in the layout
pub record IsAtEnd (x : Image) (i from start at : ℕ) (g : ℕ → ℕ) (ws : List ℕ) (ls : List Line) (next : Option ℕ) (m : Machine) : Type 0 where
  pub well : IsWell m
  pub pc : m.pc ≡ address (start + at)
  pub low : AreLow g start (at + 4)
  pub reach : LinesReach g at ws ls
  pub stands : Stands m.text (start + at) (words_from code.riscv64 g at ws ls)
  pub behind : IsNext g at ws ls next
  pub blocks : (id : ℕ) → (x.shape i).address id ≡ address (start + g id)
  pub place : (x.shape i).place from < x.blocks
  pub following : (id : ℕ) → next ≡ Some id → (x.shape i).place id ≡ (x.shape i).place from + 1

-- the entry of a successor has what it wants
pub record IsWanted (x : Image) (p : Program) (i : ℕ) (f : FuncRecord) (b : BlockRecord) (index : ℕ) (a : Activation) (window : List ℕ) (left : ℕ) (call : Call) (m : Machine) : Type 0 where
  pub block : BlockRecord
  pub is : block_of f (slice_index b.succs index) ≡ Some block
  pub inside :
      IsIn
      x
      p
      i
      f
      (slice_index b.succs index)
      (entered p f block (edge_place b index (Some block)) a (record { window = window; left = left }))
      window
      call
      m

-- a block that ends with a jump is followed on to its successor
abbrev pub JumpFollows : Type 0
JumpFollows =
    (x : Image) (p : Program) (enter : Entries) (k : ℕ) → EntryLaw riscv64 (standing x p) enter k p →
    (i : ℕ) (f : FuncRecord) (b : BlockRecord) (a : Activation) (target from start at : ℕ) (g : ℕ → ℕ) (ws : List ℕ) (next : Option ℕ) (call : Call) (window : List ℕ) (left : ℕ) (m : Machine) →
    slice_get p.pkg.funcs i ≡ Some f → left ≤ k → b.succs ≡ target ∷ [] → IsAtEnd x i from start at g ws (jump_from target next) next m → IsWanted x p i f b 0 a window left call m →
    Follows riscv64 (List ℕ) x.blocks ((x.shape i).place from) (record { window = window; left = suc left }) m
    (IsBack (x.shape i).args (x.shape i).words call.home (call.sp + (x.shape i).frame.bytes) m)
    (left_by Plain enter p i f b a (record { window = window; left = left }))

-- one that ends with a branch is, on to the successor that its control chooses
abbrev pub BranchFollows : Type 0
BranchFollows =
    (x : Image) (p : Program) (enter : Entries) (k : ℕ) → EntryLaw riscv64 (standing x p) enter k p →
    (i : ℕ) (f : FuncRecord) (b : BlockRecord) (a : Activation) (value control first second from start at : ℕ) (g : ℕ → ℕ) (ws : List ℕ) (next : Option ℕ) (call : Call) (window : List ℕ) (left : ℕ) (m : Machine) →
    slice_get p.pkg.funcs i ≡ Some f → left ≤ k → b.succs ≡ first ∷ second ∷ [] → b.control ≡ Some value → control < 32 → reg m.regs control ≡ numbers p f a.env value →
    IsAtEnd x i from start at g ws (branch code.riscv64 control (first ∷ second ∷ []) next) next m → IsWanted x p i f b 0 a window left call m → IsWanted x p i f b 1 a window left call m →
    Follows riscv64 (List ℕ) x.blocks ((x.shape i).place from) (record { window = window; left = suc left }) m
    (IsBack (x.shape i).args (x.shape i).words call.home (call.sp + (x.shape i).frame.bytes) m)
    (left_by If enter p i f b a (record { window = window; left = left }))

-- one that ends the program traps 6
abbrev pub ExitFollows : Type 0
ExitFollows =
    (x : Image) (p : Program) (enter : Entries) (i : ℕ) (f : FuncRecord) (b : BlockRecord) (a : Activation) (blocks from : ℕ) (call : Call) (window : List ℕ) (left : ℕ) (m : Machine) →
    IsWell m → m.window ≡ window → HasAt m.text m.pc (OpImm Addi 31 0 (pos 6) ∷ Ebreak ∷ []) →
    Follows riscv64 (List ℕ) blocks from (record { window = window; left = suc left }) m
    (IsBack (x.shape i).args (x.shape i).words call.home (call.sp + (x.shape i).frame.bytes) m)
    (left_by Exit enter p i f b a (record { window = window; left = left }))
