-- A lowered function in registers and slots, in its frame.
use Rattle.std.specs.Prelude.{◌≡◌, ℕ, ◌≤◌, ◌<◌, List}
use Rattle.bk_ops.specs.declared.types.Target.{Target}
use Rattle.bk_func.specs.Limits.{most_frame}
use Rattle.bk_func.specs.Records.{FuncRecord, PackageRecord, PlacedRecord}
use Rattle.bk_graph.specs.Critical.{without_critical}
use Rattle.bk_graph.specs.Layout.{layout_of}
use Rattle.bk_sched.specs.Schedule.{IsSchedule}
use Rattle.bk_live.specs.Live.{AllNextUses, IsOrdered}
use Rattle.bk_alloc.specs.Blocks.{Next}
use Rattle.bk_alloc.specs.Placement.{IsPlacement}
use Rattle.bk_calls.specs.Frame.{frame_bytes, need}
use Rattle.bk_work.specs.Each.{Each}
use Rattle.bk_work.specs.Lowered.{IsLowered}
use Rattle.bk_work.specs.Rules.{RulesRecord}

-- a function whose values have places, and the bytes of its frame
pub record FramedRecord : Type 0 where
  pub func : FuncRecord
  pub placed : PlacedRecord
  pub frame : ℕ

-- the blocks are laid out and scheduled one by one, and values placed by their next uses
pub record IsPlaced (pkg : PackageRecord) (t : Target) (f : FuncRecord) (placed : PlacedRecord) : Type 0 where
  pub orders : List (List ℕ)
  pub scheduled : Each IsSchedule f.blocks orders
  pub places : (next : Next) → IsOrdered f orders → AllNextUses f orders next → IsPlacement next t pkg f (layout_of f) orders placed

-- critical edges are split and values placed; the frame has room for the words of calls and for the slots, and a call of
-- the function needs no more than it may
pub record IsFramed (pkg : PackageRecord) (t : Target) (f : FuncRecord) (it : FramedRecord) : Type 0 where
  pub split : it.func ≡ without_critical f
  pub placed : IsPlaced pkg t it.func it.placed
  pub frame : it.frame ≡ frame_bytes t it.placed.out it.placed.slots
  pub within : need t it.placed.out it.placed.slots it.func.sig ≤ most_frame

-- a call of the function would need so many bytes, which are more than it may
pub record IsTooDeep (pkg : PackageRecord) (t : Target) (f : FuncRecord) (bytes : ℕ) : Type 0 where
  pub placed : PlacedRecord
  pub places : IsPlaced pkg t (without_critical f) placed
  pub needed : bytes ≡ need t placed.out placed.slots (without_critical f).sig
  pub over : most_frame < bytes

-- a function of the package is lowered, and that is in its frame
pub record IsMade (pkg : PackageRecord) (t : Target) (rules : RulesRecord) (f : FuncRecord) (it : FramedRecord) : Type 0 where
  pub lowered : FuncRecord
  pub steps : IsLowered pkg t rules f lowered
  pub framed : IsFramed pkg t lowered it
