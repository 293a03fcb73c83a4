-- The frame of a call: its words in the stack, and what the places of its function hold.
use Rattle.std.specs.Prelude.{◌≡◌, ◌≢◌, ◌<◌, ◌≤◌, ℕ, ◌+◌, ◌*◌, ◌^◌, ◌==◌, if◌then◌else◌, List, length, Some, ◌⊎◌}
use Rattle.bk_rv_isa.specs.declared.inst.Inst.{Inst}
use Rattle.bk_rv_isa.specs.Machine.{Machine, IsPlaced, reg, load}
use Rattle.bk_emit.specs.declared.blocks.Frame.{Frame}
use Rattle.bk_emit.specs.declared.blocks.Spot.{Spot}
use Rattle.bk_emit.specs.declared.blocks.Spot.TheVariants.{Register, Word}
use Rattle.bk_rv_isa.specs.Machine.{Goes}
use Rattle.bk_rv_emit_laws.specs.Leaving.{IsWell}
use Rattle.bk_rv_emit_laws.specs.Does.{IsPlace}

-- a register that values may have: none of x0, the return address, the stack pointer, the stack bound and x31
pub record IsHome (r : ℕ) : Type 0 where
  pub place : IsPlace r
  pub return : r ≢ 1
  pub pointer : r ≢ 2
  pub bound : r ≢ 27

-- the words of a frame stand behind those of calls; the last is that for exchanges
abbrev pub word_address : Frame → ℕ → ℕ → ℕ
word_address f sp n = sp + 8 * (f.out + n)

-- a frame at the stack pointer lies in the stack
pub record IsFrame (f : Frame) (sp : ℕ) (m : Machine) : Type 0 where
  pub placed : IsPlaced m
  pub well : IsWell m
  pub pointer : reg m.regs 2 ≡ sp
  pub low : m.bottom ≤ sp
  pub high : sp + f.bytes ≤ m.bottom + length m.stack
  pub room : 8 * (f.out + f.slots + 2) ≤ f.bytes
  pub small : sp + f.bytes < 2 ^ 32
  pub text : length m.text < 2 ^ 26

-- what registers and words hold
pub record Holds (f : Frame) (sp : ℕ) (m : Machine) (s : Spot → ℕ) : Type 0 where
  pub registers : (r : ℕ) → IsHome r → reg m.regs r ≡ s (Register r)
  pub words : (n : ℕ) → n ≤ f.slots → load m 8 (word_address f sp n) ≡ Some (s (Word n))
  pub fit : (n : ℕ) → n ≤ f.slots → s (Word n) < 2 ^ 64

-- another number in one place
abbrev pub set : (Spot → ℕ) → Spot → ℕ → Spot → ℕ
set s (Register d) v (Register r) = if r == d then v else s (Register r)
set s (Register d) v (Word n) = s (Word n)
set s (Word k) v (Register r) = s (Register r)
set s (Word k) v (Word n) = if n == k then v else s (Word n)

-- outside its registers, x1 and x31, and the frame's words nothing differs
pub record Spares (f : Frame) (sp : ℕ) (m after : Machine) : Type 0 where
  pub text : after.text ≡ m.text
  pub pool : after.pool ≡ m.pool
  pub window : after.window ≡ m.window
  pub bottom : after.bottom ≡ m.bottom
  pub long : length after.stack ≡ length m.stack
  pub bound : reg after.regs 27 ≡ reg m.regs 27
  pub apart : (width a : ℕ) → (a + width ≤ word_address f sp 0) ⊎ (word_address f sp f.slots + 8 ≤ a) → load after width a ≡ load m width a

-- the instructions at the pc, which are made to their end, leave these numbers in the places
pub record Leads (f : Frame) (sp : ℕ) (is : List Inst) (m : Machine) (s : Spot → ℕ) : Type 0 where
  pub after : Machine
  pub steps : ℕ
  pub goes : Goes steps m after
  pub pc : after.pc ≡ m.pc + 4 * length is
  pub frame : IsFrame f sp after
  pub holds : Holds f sp after s
  pub spares : Spares f sp m after
