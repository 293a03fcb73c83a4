-- A package of lowered functions on the machine: the relation at the entry of a block, and what a call leaves that came back.
use Rattle.std.specs.Prelude.{◌≡◌, ◌<◌, ◌≤◌, ℕ, suc, ◌+◌, ◌-◌, ◌*◌, ◌%◌, ◌^◌, Bool, true, List, length, Option, Some, slice_index}
use Rattle.bk_func.specs.Records.{FuncRecord}
use Rattle.bk_func.specs.Numbers.{Program, numbers}
use Rattle.bk_func.specs.Meaning.{World, Activation}
use Rattle.bk_rv_isa.specs.Machine.{HasAt, Machine, IsPlaced, reg, load, step}
use Rattle.bk_emit.specs.declared.blocks.Frame.{Frame}
use Rattle.bk_emit.specs.declared.blocks.Spot.{Spot}
use Rattle.bk_rv_emit.specs.Blocks.{leave}
use Rattle.bk_rv_emit_laws.specs.Leaving.{IsWell}
use Rattle.bk_rv_emit_laws.specs.Octets.{AreBytes}
use Rattle.bk_rv_emit_laws.specs.Frames.{IsFrame, Holds}
use Rattle.bk_rv_emit_laws.specs.Steps.{IsSpot}
use Rattle.bk_rv_emit_laws.specs.Calls.{HasLeft}
use Rattle.bk_run_laws.specs.Follows.{System, Ends}
use Rattle.bk_run_laws.specs.Standing.{Standing}

-- the machine as runs see it
abbrev pub riscv64 : System
riscv64 = record { Machine = Machine; step = step; window = λ m. m.window }

-- where values stand, by number, the places hold their numbers
pub record AreHeld (f : Frame) (at : Spot → Option ℕ) (number : ℕ → ℕ) (s : Spot → ℕ) : Type 0 where
  pub each : (x : Spot) (id : ℕ) → IsSpot f x → at x ≡ Some id → s x ≡ number id

-- the words from an address on that are there
pub record HasWords (m : Machine) (address : ℕ) (there : ℕ → Bool) (word : ℕ → ℕ) : Type 0 where
  pub each : (k : ℕ) → there k ≡ true → load m 8 (address + 8 * k) ≡ Some (word k)

-- what placement and code say of a function: its frame, how many words its arguments take and how many these and its results;
-- where its code begins; the address of each block and its place in the layout; and at the entry of each block which value
-- stands where, which words of its arguments may still be read, and which of the next call's and of its results are written
pub record Shape : Type 0 where
  pub frame : Frame
  pub args : ℕ
  pub words : ℕ
  pub begin : ℕ
  pub address : ℕ → ℕ
  pub place : ℕ → ℕ
  pub at : ℕ → Spot → Option ℕ
  pub given : ℕ → ℕ → Bool
  pub out : ℕ → ℕ → Bool
  pub back : ℕ → ℕ → Bool

-- a package's text and pool, the count of its blocks, and its functions by their places
pub record Image : Type 0 where
  pub text : List ℕ
  pub pool : List ℕ
  pub blocks : ℕ
  pub shape : ℕ → Shape

-- what tells one call from another: where it returns to, and the stack pointer in it
pub record Call : Type 0 where
  pub home : ℕ
  pub sp : ℕ

-- a return address
pub record IsReturn (home : ℕ) : Type 0 where
  pub even : home % 2 ≡ 0
  pub near : home < 2 ^ 32

-- windows of bytes
pub record HasBytes (m : Machine) : Type 0 where
  pub window : AreBytes m.window
  pub stack : AreBytes m.stack
  pub pool : AreBytes m.pool

-- the machine has a call under way, as the entry of a block wants it: the call's frame is at the stack pointer with the return
-- address in its last word, places hold the numbers of values, and the words of its arguments and results begin behind the frame
pub record IsIn (x : Image) (p : Program) (i : ℕ) (f : FuncRecord) (id : ℕ) (a : Activation) (d : List ℕ) (call : Call) (m : Machine) : Type 0 where
  pub text : m.text ≡ x.text
  pub pool : m.pool ≡ x.pool
  pub bytes : HasBytes m
  pub frame : IsFrame (x.shape i).frame call.sp m
  pub holds : Spot → ℕ
  pub held : Holds (x.shape i).frame call.sp m holds
  pub values : AreHeld (x.shape i).frame ((x.shape i).at id) (numbers p f a.env) holds
  pub window : m.window ≡ d
  pub left : HasLeft m a.stack
  pub return : load m 8 (call.sp + (x.shape i).frame.bytes - 8) ≡ Some call.home
  pub home : IsReturn call.home
  pub given : HasWords m (call.sp + (x.shape i).frame.bytes) ((x.shape i).given id) (slice_index a.env.args)
  pub out : HasWords m call.sp ((x.shape i).out id) a.out
  pub back : HasWords m (call.sp + (x.shape i).frame.bytes) ((x.shape i).back id) a.back

-- and is there
pub record IsUnderWay (x : Image) (p : Program) (i : ℕ) (f : FuncRecord) (id : ℕ) (a : Activation) (d : List ℕ) (call : Call) (m : Machine) : Type 0 where
  pub pc : m.pc ≡ (x.shape i).address id
  pub inside : IsIn x p i f id a d call m

-- the words of results: the first eight in x10 to x17, the others in memory behind the words of arguments
pub record HasResults (args sp : ℕ) (results : List ℕ) (n : Machine) : Type 0 where
  pub low : (k : ℕ) → k < 8 → k < length results → reg n.regs (10 + k) ≡ slice_index results k
  pub high : (k : ℕ) → 8 ≤ k → k < length results → load n 8 (sp + 8 * (args + k)) ≡ Some (slice_index results k)

-- what a part of a call does not change: the bound of the stack, and memory from a limit on
pub record Beside (limit : ℕ) (m n : Machine) : Type 0 where
  pub bound : reg n.regs 27 ≡ reg m.regs 27
  pub above : (width a : ℕ) → limit ≤ a → load n width a ≡ load m width a
  pub text : n.text ≡ m.text
  pub pool : n.pool ≡ m.pool
  pub bottom : n.bottom ≡ m.bottom
  pub long : length n.stack ≡ length m.stack

-- a call has come back: the machine is at its return address with the stack pointer that it was called with, its results are
-- there, and beside its words nothing differs
pub record IsBack (args words home sp : ℕ) (m : Machine) (rs : List ℕ) (v : World) (n : Machine) : Type 0 where
  pub pc : n.pc ≡ home
  pub well : IsWell n
  pub placed : IsPlaced n
  pub bytes : HasBytes n
  pub pointer : reg n.regs 2 ≡ sp
  pub window : n.window ≡ v.window
  pub results : HasResults args sp rs n
  pub beside : Beside (sp + 8 * words) m n

-- a package as it stands on the machine
abbrev pub standing : Image → Program → Standing riscv64
standing x p = record {
  Call = Call;
  blocks = x.blocks;
  place = λ i id. (x.shape i).place id;
  At = λ i f id a window call m. IsUnderWay x p i f id a window call m;
  Back = λ i call m. IsBack (x.shape i).args (x.shape i).words call.home (call.sp + (x.shape i).frame.bytes) m;
}

-- a block that ends with Ret: where the frame, the return address and the words of the results stand, the call comes back
abbrev pub RetEnds : Type 0
RetEnds =
    (f : Frame) (args words home sp blocks place left : ℕ) (window : List ℕ) (m : Machine) (results : List ℕ) →
    IsFrame f sp m → HasBytes m → f.bytes ≤ 2 ^ 20 → load m 8 (sp + f.bytes - 8) ≡ Some home → IsReturn home →
    HasAt m.text m.pc (leave f.bytes) → m.window ≡ window → HasResults args (sp + f.bytes) results m → place < blocks →
    Ends riscv64 (List ℕ) blocks place (record { window = window; left = suc left }) (record { window = window; left = left }) m results (IsBack args words home (sp + f.bytes) m)
