-- The laws of steps: what their lines do to the places of a frame.
use Rattle.std.specs.Prelude.{◌≡◌, ◌≢◌, map, ◌<◌, ◌≤◌, ℕ, ◌^◌, ℤ, List, [], ◌∷◌, ◌++◌, Option, Some}
use Rattle.bk_func.specs.declared.parts.Loc.{Loc}
use Rattle.bk_ops.specs.declared.types.Target.TheVariants.{Riscv64}
use Rattle.bk_ops.specs.declared.family.Family.TheVariants as op
use Rattle.bk_ops.specs.declared.family.RvOp.{RvOp}
use Rattle.bk_ops.specs.declared.family.RvOp.TheVariants as rv
use Rattle.bk_ops.specs.Formulas.{rv_formula}
use Rattle.bk_ops.specs.Values.{valued}
use Rattle.bk_piece.specs.declared.Handle.{Handle}
use Rattle.bk_rv_isa.specs.declared.inst.Inst.{Inst}
use Rattle.bk_rv_isa.specs.Machine.{Machine, HasAt}
use Rattle.bk_emit.specs.declared.blocks.Frame.{Frame}
use Rattle.bk_emit.specs.declared.blocks.Spot.{Spot}
use Rattle.bk_emit.specs.declared.blocks.Spot.TheVariants.{Register, Word}
use Rattle.bk_emit.specs.declared.lines.Line.{Line}
use Rattle.bk_emit.specs.Blocks.{load_slot, store_slot, move_lines, spot_of, regs_of}
use Rattle.bk_rv_emit.specs.Code.{riscv64}
use Rattle.bk_rv_emit.specs.Lines.{inst}
use Rattle.bk_rv_emit.specs.Units.{machine_unit, family_unit}
use Rattle.bk_rv_emit_laws.specs.Does.{AreFit}
use Rattle.bk_rv_emit_laws.specs.Leaving.{Leaves}
use Rattle.bk_rv_emit_laws.specs.Frames.{IsHome, IsFrame, Holds, Leads, set}

-- a place of the frame
abbrev pub IsSpot : Frame → Spot → Type 0
IsSpot f (Register r) = IsHome r
IsSpot f (Word n) = n ≤ f.slots

-- in a frame whose places hold these numbers the instructions at the pc leave those
abbrev pub Makes : Frame → List Inst → (Spot → ℕ) → (Spot → ℕ) → Type 0
Makes f is s t = (sp : ℕ) (m : Machine) → IsFrame f sp m → Holds f sp m s → HasAt m.text m.pc is → Leads f sp is m t

-- the lines are instructions that do so
abbrev pub LinesMake : Frame → List Line → (Spot → ℕ) → (Spot → ℕ) → Type 0
LinesMake f ls s t = (is : List Inst) × (ls ≡ map inst is) × Makes f is s t

-- a load of a slot, near or far
abbrev pub LoadMakes : Type 0
LoadMakes =
    (f : Frame) (s : Spot → ℕ) (r n : ℕ) → IsHome r → n ≤ f.slots → f.bytes < 2 ^ 30 →
    LinesMake f (load_slot riscv64 f r n) s (set s (Register r) (s (Word n)))

-- a store to a slot
abbrev pub StoreMakes : Type 0
StoreMakes =
    (f : Frame) (s : Spot → ℕ) (r n : ℕ) → IsHome r → n ≤ f.slots → f.bytes < 2 ^ 30 →
    LinesMake f (store_slot riscv64 f r n) s (set s (Word n) (s (Register r)))

-- a move from any place to any place
abbrev pub MoveMakes : Type 0
MoveMakes =
    (f : Frame) (s : Spot → ℕ) (a b : Loc) → IsSpot f (spot_of f a) → IsSpot f (spot_of f b) → f.bytes < 2 ^ 30 →
    LinesMake f (move_lines riscv64 f a b) s (set s (spot_of f b) (s (spot_of f a)))

-- what leaves a value in a register does so to the places
abbrev pub ValueMakes : Type 0
ValueMakes =
    (f : Frame) (s : Spot → ℕ) (is : List Inst) (sp d v : ℕ) (m : Machine) → IsHome d → IsFrame f sp m → Holds f sp m s →
    Leaves is m d v → Leads f sp is m (set s (Register d) v)

-- the homes of arguments
abbrev pub AreHomes : List ℕ → Type 0
AreHomes [] = Unit {0}
AreHomes (a ∷ rest) = IsHome a × AreHomes rest

-- the unit of a pure op puts its value, at the numbers of its arguments' registers, into its register
abbrev pub ComputeMakes : Type 0
ComputeMakes =
    (o : RvOp) (f : Frame) (s : Spot → ℕ) (w d v : ℕ) (args : List ℕ) (c : ℤ) (h : Option Handle) → o ≢ rv.Const → IsHome d → AreHomes args →
    machine_unit o w (regs_of args (Some d)) c ≢ [] → AreFit (machine_unit o w (regs_of args (Some d)) c) →
    valued (rv_formula o 64 c Riscv64) (map (λ a. s (Register a)) args) ≡ Some v →
    LinesMake f (family_unit (op.Rv o) w (regs_of args (Some d)) c h f.bytes) s (set s (Register d) v)

-- steps one behind the other
abbrev pub StepsMake : Type 0
StepsMake = (f : Frame) (ls ks : List Line) (s t u : Spot → ℕ) → LinesMake f ls s t → LinesMake f ks t u → LinesMake f (ls ++ ks) s u
