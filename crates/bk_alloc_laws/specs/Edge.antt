-- What an edge brings to the start of a block.
use Rattle.std.specs.Prelude.{◌≡◌, ℕ, ◌<◌, ◌^◌, true, List, slice_index_or, None, Some, ◌⊎◌}
use Rattle.std.specs.List.{Contains}
use Rattle.bk_func.specs.declared.parts.Loc.{Loc}
use Rattle.bk_func.specs.declared.parts.Loc.TheVariants.{Reg, Slot, Swap}
use Rattle.bk_alloc.specs.Registers.{Registers, holds}
use Rattle.bk_alloc.specs.Blocks.{PartRecord, edge_from, slot_phis, source_of}
use Rattle.bk_alloc_laws.specs.Holding.{World}

-- a value is in a register, or is known and has a slot
abbrev pub AtHand : World → Registers → List ℕ → ℕ → Type 0
AtHand w rs known v = (holds rs v ≡ true) ⊎ (Contains known v × (w.home v ≡ true))

-- the numbers behind the edge: a phi's is that of its argument
abbrev pub world_after : World → PartRecord → PartRecord → World
world_after w p q = record w { number = λ v. w.number (source_of q.plan.phis (edge_from p.plan.id q) v) }

-- what the map and the phis in slots of the successor ask for is at hand
pub record Arrives (w : World) (p q : PartRecord) (known : List ℕ) : Type 0 where
  pub registers : (r v : ℕ) → slice_index_or q.first r None ≡ Some v → AtHand w p.last known (source_of q.plan.phis (edge_from p.plan.id q) v)
  pub slots : (v : ℕ) → Contains (slot_phis q) v → AtHand w p.last known (source_of q.plan.phis (edge_from p.plan.id q) v)

-- a register or a slot, as they can be numbered
abbrev pub IsPlace : Loc → Type 0
IsPlace (Reg n) = n < 256
IsPlace (Slot n) = n < 2 ^ 32
IsPlace Swap = ⊥
