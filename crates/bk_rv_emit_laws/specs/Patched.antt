-- The units that wait for an address, once it is in their words.
use Rattle.std.specs.Prelude.{◌≡◌, ◌<◌, ℕ, pos, ◌^◌, List, [], ◌∷◌, map}
use Rattle.bk_ops.specs.declared.types.Target.TheVariants.{Riscv64}
use Rattle.bk_piece.specs.declared.Patch.{Patch}
use Rattle.bk_piece.specs.declared.Patch.TheVariants as patch
use Rattle.bk_fixup.specs.Patches.{distance, patched}
use Rattle.bk_rv_isa.specs.declared.inst.ImmediateOp.TheVariants.{Addi}
use Rattle.bk_rv_isa.specs.declared.inst.LoadOp.TheVariants.{Ld}
use Rattle.bk_rv_isa.specs.declared.inst.Inst.{Inst}
use Rattle.bk_rv_isa.specs.declared.inst.Inst.TheVariants as i
use Rattle.bk_rv_emit.specs.Lines.{word_of}
use Rattle.bk_rv_emit.specs.Numbers.{upper, lower}
use Rattle.bk_rv_emit_laws.specs.Does.{AreFit, addr_insts}
use Rattle.bk_rv_emit_laws.specs.Calls.{call_insts}

-- the constant at an address of the pool
abbrev pub pool_insts : ℕ → ℕ → List Inst
pool_insts d g = i.Lui d (upper (pos g)) ∷ i.Load Ld d d (lower (pos g)) ∷ []

-- the words of two instructions with 0 in their immediates, patched with a target at a place, are those of these instructions,
-- whose fields fit
pub record Becomes (p : Patch) (before : List Inst) (target place : ℕ) (now : List Inst) : Type 0 where
  pub words : patched Riscv64 p (map word_of before) target place ≡ map word_of now
  pub fit : AreFit now

abbrev pub AddrBecomes : Type 0
AddrBecomes = (d target place : ℕ) → d < 32 → target < 2 ^ 32 → Becomes patch.Addr (i.Lui d (pos 0) ∷ i.OpImm Addi d d (pos 0) ∷ []) target place (addr_insts d target)

abbrev pub PoolBecomes : Type 0
PoolBecomes = (d target place : ℕ) → d < 32 → target < 2 ^ 32 → Becomes patch.Pool (i.Lui d (pos 0) ∷ i.Load Ld d d (pos 0) ∷ []) target place (pool_insts d target)

abbrev pub CallBecomes : Type 0
CallBecomes = (target place : ℕ) → Becomes patch.Call (i.Auipc 31 (pos 0) ∷ i.Jalr 1 31 (pos 0) ∷ []) target place (call_insts (distance place target))
