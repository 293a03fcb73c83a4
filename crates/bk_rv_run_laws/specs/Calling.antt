-- A call that begins, and the start of the machine.
use Rattle.std.specs.Prelude.{◌≡◌, ◌<◌, ◌≤◌, ℕ, ◌+◌, ◌-◌, ◌*◌, ◌^◌, true, false, List, length, Some, slice_get, slice_index}
use Rattle.bk_func.specs.Records.{BlockRecord, FuncRecord}
use Rattle.bk_func.specs.Numbers.{Program, numbers}
use Rattle.bk_func.specs.Edits.{block_of}
use Rattle.bk_func.specs.Meaning.{World, Entries, entered, entry_id, fresh, begun, run, ended}
use Rattle.bk_num.specs.Memory.{pool_base, data_base}
use Rattle.bk_rv_isa.specs.Machine.{HasAt, Machine, IsPlaced, reg, load, stack_top, start}
use Rattle.bk_emit.specs.declared.blocks.Spot.{Spot}
use Rattle.bk_emit.specs.declared.blocks.Spot.TheVariants.{Register}
use Rattle.bk_rv_emit.specs.Blocks.{entry}
use Rattle.bk_rv_emit_laws.specs.Leaving.{IsWell}
use Rattle.bk_rv_emit_laws.specs.Octets.{AreBytes}
use Rattle.bk_rv_emit_laws.specs.Calls.{HasLeft}
use Rattle.bk_run_laws.specs.Follows.{Follows, Meets}
use Rattle.bk_run_laws.specs.Standing.{ArePlaces, EntryLaw, OneBlock}
use Rattle.bk_rv_run_laws.specs.Relation.{Image, HasBytes, IsReturn, HasResults, IsBack, riscv64, standing}

-- the machine is at the beginning of a function with these words as its arguments: the first eight in x10 to x17, the others from
-- the stack pointer on; so many bytes of stack are left, and x1 has the return address
pub record IsCalled (x : Image) (i : ℕ) (args : List ℕ) (stack : ℕ) (d : List ℕ) (back sp : ℕ) (m : Machine) : Type 0 where
  pub pc : m.pc ≡ (x.shape i).begin
  pub text : m.text ≡ x.text
  pub pool : m.pool ≡ x.pool
  pub well : IsWell m
  pub placed : IsPlaced m
  pub bytes : HasBytes m
  pub left : HasLeft m stack
  pub pointer : reg m.regs 2 ≡ sp
  pub return : reg m.regs 1 ≡ back
  pub home : IsReturn back
  pub window : m.window ≡ d
  pub low : (k : ℕ) → k < 8 → k < length args → reg m.regs (10 + k) ≡ slice_index args k
  pub high : (k : ℕ) → 8 ≤ k → k < length args → load m 8 (sp + 8 * k) ≡ Some (slice_index args k)

-- a value that has the number of the k-th word of the arguments where the first block is entered
pub record IsArgument (p : Program) (f : FuncRecord) (b : BlockRecord) (count k id : ℕ) : Type 0 where
  pub low : k < 8
  pub some : k < count
  pub number : (args : List ℕ) (stack : ℕ) (w : World) → length args ≡ count → numbers p f (entered p f b 0 (fresh args stack) w).env id ≡ slice_index args k

-- how a function opens: its entry stands where it begins, with the first block behind it; there only words of the arguments
-- stand in registers, and no word of a call or of the results is written
pub record Opens (x : Image) (p : Program) (i : ℕ) (f : FuncRecord) : Type 0 where
  pub code : HasAt x.text (x.shape i).begin (entry (x.shape i).frame.bytes)
  pub begin : (x.shape i).begin < 2 ^ 32
  pub text : length x.text < 2 ^ 26
  pub bytes : (x.shape i).frame.bytes ≤ 2 ^ 20
  pub room : 8 * ((x.shape i).frame.out + (x.shape i).frame.slots + 2) ≤ (x.shape i).frame.bytes
  pub frame : slice_index p.frames i ≡ (x.shape i).frame.bytes
  pub block : BlockRecord
  pub is : block_of f (entry_id f.blocks) ≡ Some block
  pub first : (x.shape i).address (entry_id f.blocks) ≡ (x.shape i).begin + 4 * length (entry (x.shape i).frame.bytes)
  pub at : (s : Spot) (id : ℕ) → (x.shape i).at (entry_id f.blocks) s ≡ Some id → (k : ℕ) × (s ≡ Register (10 + k)) × IsArgument p f block (x.shape i).args k id
  pub given : (k : ℕ) → (x.shape i).given (entry_id f.blocks) k ≡ true → (8 ≤ k) × (k < (x.shape i).args)
  pub out : (k : ℕ) → (x.shape i).out (entry_id f.blocks) k ≡ false
  pub back : (k : ℕ) → (x.shape i).back (entry_id f.blocks) k ≡ false

-- where the entries of blocks are followed, a call is: it traps where its frame exceeds the stack that is left, else its blocks run
abbrev pub CallsFollow : Type 0
CallsFollow =
    (x : Image) (p : Program) (enter : Entries) (k : ℕ) → EntryLaw riscv64 (standing x p) enter k p →
    (i : ℕ) (f : FuncRecord) (args : List ℕ) (stack : ℕ) (window : List ℕ) (left back sp : ℕ) (m : Machine) →
    slice_get p.pkg.funcs i ≡ Some f → Opens x p i f → length args ≡ (x.shape i).args → left ≤ k → IsCalled x i args stack window back sp m →
    Follows riscv64 (List ℕ) x.blocks 0 (record { window = window; left = left }) m (IsBack (x.shape i).args (x.shape i).words back sp m)
    (begun enter p i args stack (record { window = window; left = left }))

-- what a package may be started with
pub record MayStart (x : Image) (i : ℕ) (args : List ℕ) (results bytes : ℕ) (d : List ℕ) : Type 0 where
  pub count : length args ≡ (x.shape i).args
  pub words : (k : ℕ) → slice_index args k < 2 ^ 64
  pub pool : pool_base + length x.pool ≤ data_base
  pub window : data_base + length d ≤ stack_top - bytes
  pub stack : bytes ≤ stack_top
  pub small : length args + results ≤ 2 ^ 20
  pub pool_bytes : AreBytes x.pool
  pub window_bytes : AreBytes d

-- where each block of a package is followed, the machine that starts at a function does what the call comes to
abbrev pub PackagesRun : Type 0
PackagesRun =
    (x : Image) (p : Program) → ArePlaces p x.blocks (standing x p).place → OneBlock riscv64 (standing x p) p →
    (i : ℕ) (f : FuncRecord) (args : List ℕ) (results stack : ℕ) (window : List ℕ) (n : ℕ) → slice_get p.pkg.funcs i ≡ Some f → Opens x p i f → MayStart x i args results stack window →
    Meets riscv64 n x.blocks (start x.text x.pool window (x.shape i).begin args results stack) (HasResults (x.shape i).args stack_top)
    (ended (begun (run n p) p i args stack (record { window = window; left = n }))).0
    (ended (begun (run n p) p i args stack (record { window = window; left = n }))).1
