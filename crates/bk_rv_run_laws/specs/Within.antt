-- A call within a call.
use Rattle.std.specs.Prelude.{◌≡◌, ◌<◌, ◌≤◌, ℕ, ◌+◌, ◌*◌, ◌%◌, ◌^◌, List, length, Some, slice_get, slice_index}
use Rattle.bk_fixup.specs.Patches.{distance}
use Rattle.bk_func.specs.Records.{FuncRecord}
use Rattle.bk_func.specs.Numbers.{Program}
use Rattle.bk_func.specs.Meaning.{World, Entries, begun}
use Rattle.bk_rv_isa.specs.Machine.{HasAt, Machine, reg, load}
use Rattle.bk_emit.specs.declared.blocks.Frame.{Frame}
use Rattle.bk_emit.specs.declared.blocks.Spot.{Spot}
use Rattle.bk_emit.specs.declared.blocks.Spot.TheVariants.{Word}
use Rattle.bk_rv_emit_laws.specs.Calls.{HasLeft, call_insts}
use Rattle.bk_rv_emit_laws.specs.Frames.{IsFrame, Holds, word_address}
use Rattle.bk_run_laws.specs.Follows.{Follows}
use Rattle.bk_run_laws.specs.Standing.{EntryLaw}
use Rattle.bk_rv_run_laws.specs.Relation.{Image, HasBytes, HasResults, Beside, riscv64, standing}
use Rattle.bk_rv_run_laws.specs.Calling.{Opens}

-- a frame's call has come back: the machine is behind it, the frame's words hold what they held, and the results are in registers
-- and in the words of the call
pub record IsAfter (f : Frame) (sp args words back : ℕ) (m : Machine) (s : Spot → ℕ) (rs : List ℕ) (v : World) (n : Machine) : Type 0 where
  pub pc : n.pc ≡ back
  pub frame : IsFrame f sp n
  pub bytes : HasBytes n
  pub slots : (k : ℕ) → k ≤ f.slots → load n 8 (word_address f sp k) ≡ Some (s (Word k))
  pub window : n.window ≡ v.window
  pub results : HasResults args sp rs n
  pub beside : Beside (sp + 8 * words) m n

-- the machine of a package has a frame at its stack pointer, below which so many bytes of stack are left
pub record HasFrame (x : Image) (f : Frame) (sp stack : ℕ) (d : List ℕ) (m : Machine) (s : Spot → ℕ) : Type 0 where
  pub text : m.text ≡ x.text
  pub pool : m.pool ≡ x.pool
  pub bytes : HasBytes m
  pub frame : IsFrame f sp m
  pub held : Holds f sp m s
  pub left : HasLeft m stack
  pub window : m.window ≡ d

-- the words of a call are where its callee takes them: the first eight in x10 to x17, the others from the stack pointer on
pub record AreSent (args : List ℕ) (sp : ℕ) (m : Machine) : Type 0 where
  pub low : (k : ℕ) → k < 8 → k < length args → reg m.regs (10 + k) ≡ slice_index args k
  pub high : (k : ℕ) → 8 ≤ k → k < length args → load m 8 (sp + 8 * k) ≡ Some (slice_index args k)

-- two addresses of code
pub record AreCode (pc to : ℕ) : Type 0 where
  pub here : pc < 2 ^ 29
  pub there : to < 2 ^ 29
  pub even : pc % 2 ≡ 0
  pub even_there : to % 2 ≡ 0

-- where the entries of blocks are followed, a call in a frame whose words have room for the callee's is followed to behind it
abbrev pub CallsReturn : Type 0
CallsReturn =
    (x : Image) (p : Program) (enter : Entries) (k : ℕ) → EntryLaw riscv64 (standing x p) enter k p →
    (i : ℕ) (g : FuncRecord) (args : List ℕ) (f : Frame) (sp stack : ℕ) (window : List ℕ) (left : ℕ) (m : Machine) (s : Spot → ℕ) →
    slice_get p.pkg.funcs i ≡ Some g → Opens x p i g → length args ≡ (x.shape i).args → (x.shape i).words ≤ f.out → left ≤ k →
    HasFrame x f sp stack window m s → AreSent args sp m → AreCode m.pc (x.shape i).begin → HasAt m.text m.pc (call_insts (distance m.pc (x.shape i).begin)) →
    Follows riscv64 (List ℕ) x.blocks 0 (record { window = window; left = left }) m (IsAfter f sp (x.shape i).args (x.shape i).words (m.pc + 8) m s)
    (begun enter p i args stack (record { window = window; left = left }))
