-- The law of a unit: its instructions leave the value of its op.
use Rattle.std.specs.Prelude.{◌≡◌, ◌≢◌, ◌<◌, ℕ, ◌^◌, ℤ, pos, true, false, List, [], ◌∷◌, map, Some, if◌then◌else◌}
use Rattle.bk_num.specs.Word.{residue, fits_signed}
use Rattle.bk_ops.specs.declared.types.Target.TheVariants.{Riscv64}
use Rattle.bk_ops.specs.declared.family.RvOp.{RvOp}
use Rattle.bk_ops.specs.declared.family.RvOp.TheVariants as rv
use Rattle.bk_ops.specs.Formulas.{rv_formula}
use Rattle.bk_ops.specs.Values.{valued}
use Rattle.bk_rv_isa.specs.declared.inst.ImmediateOp.TheVariants.{Addi}
use Rattle.bk_rv_isa.specs.declared.inst.LoadOp.TheVariants.{Ld}
use Rattle.bk_rv_isa.specs.declared.inst.Inst.{Inst}
use Rattle.bk_rv_isa.specs.declared.inst.Inst.TheVariants as i
use Rattle.bk_rv_isa.specs.Encoding.{fits}
use Rattle.bk_rv_isa.specs.Machine.{Machine, HasAt, reg, load}
use Rattle.bk_rv_emit.specs.Units.{machine_unit}
use Rattle.bk_rv_emit.specs.Numbers.{upper, lower}
use Rattle.bk_emit.specs.Blocks.{regs_of}
use Rattle.bk_rv_emit_laws.specs.Leaving.{IsWell, Leaves}

-- a register that a value may have: not x0 and not x31
pub record IsPlace (d : ℕ) : Type 0 where
  pub some : d ≢ 0
  pub free : d ≢ 31
  pub low : d < 32

abbrev pub AreFree : List ℕ → Type 0
AreFree [] = Unit {0}
AreFree (a ∷ as_) = (a ≢ 31) × AreFree as_

-- a constant, and an address, where g is the address that the unit's patch put in
abbrev pub const_insts : ℕ → ℤ → ℕ → List Inst
const_insts d c g =
    if fits_signed 12 c then i.OpImm Addi d 0 c ∷ []
    else (if fits_signed 32 c then i.Lui d (upper c) ∷ i.Addiw d d (lower c) ∷ []
    else i.Lui d (upper (pos g)) ∷ i.Load Ld d d (lower (pos g)) ∷ [])

abbrev pub addr_insts : ℕ → ℕ → List Inst
addr_insts d g = i.Lui d (upper (pos g)) ∷ i.OpImm Addi d d (lower (pos g)) ∷ []

-- each instruction's fields fit
abbrev pub AreFit : List Inst → Type 0
AreFit [] = Unit {0}
AreFit (i ∷ is) = (fits i ≡ true) × AreFit is

-- these instructions stand at the pc of a machine whose text is low, and do what a value's op says: d has the value
abbrev pub Does : List Inst → Machine → ℕ → ℕ → Type 0
Does is m d v = IsWell m → IsPlace d → m.pc < 2 ^ 32 → AreFit is → HasAt m.text m.pc is → Leaves is m d v

-- the unit of a machine op, at the words of its arguments
abbrev pub UnitDoes : RvOp → Type 0
UnitDoes o =
    (w d : ℕ) (args : List ℕ) (c : ℤ) (m : Machine) (v : ℕ) → AreFree args → o ≢ rv.Const →
    valued (rv_formula o 64 c Riscv64) (map (reg m.regs) args) ≡ Some v →
    Does (machine_unit o w (regs_of args (Some d)) c) m d v

-- the eight bytes at an address that two immediates reach are those of a number
pub record IsPooled (m : Machine) (g v : ℕ) : Type 0 where
  pub low : g < 2 ^ 30
  pub there : load m 8 g ≡ Some v

-- the unit of a constant; g is its address in the pool where it has more than 32 bits
abbrev pub ConstDoes : Type 0
ConstDoes =
    (d g : ℕ) (c : ℤ) (m : Machine) → (fits_signed 32 c ≡ false → IsPooled m g (residue 64 c)) → Does (const_insts d c g) m d (residue 64 c)

-- the unit of an address
abbrev pub AddrDoes : Type 0
AddrDoes = (d g : ℕ) (m : Machine) → g < 2 ^ 30 → Does (addr_insts d g) m d g
