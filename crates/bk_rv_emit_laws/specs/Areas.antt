-- The words of calls: those that a function was given behind its frame, and those of its own calls below its slots.
use Rattle.std.specs.Prelude.{◌≡◌, ◌<◌, ◌≤◌, ℕ, ◌+◌, ◌*◌, ◌^◌, List, length, Some, ◌⊎◌}
use Rattle.bk_rv_isa.specs.declared.inst.Inst.{Inst}
use Rattle.bk_rv_isa.specs.Machine.{Machine, HasAt, Goes, reg, load}
use Rattle.bk_emit.specs.declared.blocks.Frame.{Frame}
use Rattle.bk_emit.specs.declared.blocks.Spot.{Spot}
use Rattle.bk_emit.specs.declared.blocks.Spot.TheVariants.{Register}
use Rattle.bk_rv_emit.specs.Words.{load_at, store_at}
use Rattle.bk_rv_emit_laws.specs.Frames.{IsHome, IsFrame, Holds, Leads, set, word_address}

-- a word that is none of the frame's own
abbrev pub IsBeside : Frame → ℕ → ℕ → Type 0
IsBeside f sp a = (a + 8 ≤ word_address f sp 0) ⊎ (word_address f sp f.slots + 8 ≤ a)

-- the instructions at the pc, which are made to their end, put a number into memory; the places of the frame hold what they held,
-- and no other memory differs
pub record Puts (f : Frame) (sp : ℕ) (is : List Inst) (m : Machine) (s : Spot → ℕ) (a v : ℕ) : Type 0 where
  pub after : Machine
  pub steps : ℕ
  pub goes : Goes steps m after
  pub pc : after.pc ≡ m.pc + 4 * length is
  pub frame : IsFrame f sp after
  pub holds : Holds f sp after s
  pub there : load after 8 a ≡ Some v
  pub apart : (width x : ℕ) → (x + width ≤ a) ⊎ (a + 8 ≤ x) → load after width x ≡ load m width x
  pub bound : reg after.regs 27 ≡ reg m.regs 27
  pub text : after.text ≡ m.text
  pub pool : after.pool ≡ m.pool
  pub window : after.window ≡ m.window
  pub bottom : after.bottom ≡ m.bottom
  pub long : length after.stack ≡ length m.stack

-- a word at an offset from the stack pointer is loaded into a register
abbrev pub WordLoads : Type 0
WordLoads =
    (f : Frame) (s : Spot → ℕ) (sp d o v : ℕ) (m : Machine) → IsFrame f sp m → Holds f sp m s → IsHome d → o < 2 ^ 21 → sp + o < 2 ^ 32 →
    IsBeside f sp (sp + o) → load m 8 (sp + o) ≡ Some v → v < 2 ^ 64 → HasAt m.text m.pc (load_at d o) → Leads f sp (load_at d o) m (set s (Register d) v)

-- a register is stored to a word of the stack at an offset from the stack pointer
abbrev pub WordStores : Type 0
WordStores =
    (f : Frame) (s : Spot → ℕ) (sp r o : ℕ) (m : Machine) → IsFrame f sp m → Holds f sp m s → IsHome r → o < 2 ^ 21 → sp + o < 2 ^ 32 →
    IsBeside f sp (sp + o) → sp + o + 8 ≤ m.bottom + length m.stack → HasAt m.text m.pc (store_at r o) → Puts f sp (store_at r o) m s (sp + o) (s (Register r))
