-- Which values of a block come before which.
use Rattle.std.specs.Prelude.{◌≡◌, ℕ, ◌<◌, true, Some, ◌⊎◌}
use Rattle.std.specs.List.{Contains, slice_get}
use Rattle.bk_ops.specs.Families.{is_word_result}
use Rattle.bk_ops.specs.declared.family.Family.TheVariants.{Load, NilCheck, SelectN, Arm, Rv}
use Rattle.bk_ops.specs.declared.family.ArmOp.TheVariants as arm
use Rattle.bk_ops.specs.declared.family.RvOp.TheVariants as rv
use Rattle.bk_ops.specs.declared.types.Ty.TheVariants.{Mem}
use Rattle.bk_func.specs.Records.{ValueRecord, BlockRecord, FuncRecord}
use Rattle.bk_func.specs.Form.Text.{IsPhi}
use Rattle.bk_func.specs.Form.States.{IsState, Names}

abbrev pub IsLoad : ValueRecord → Type 0
IsLoad v = (v.op.family ≡ Load) ⊎ (v.op.family ≡ Arm arm.Load) ⊎ (v.op.family ≡ Rv rv.Load)

abbrev pub IsNilCheck : ValueRecord → Type 0
IsNilCheck v = (v.op.family ≡ NilCheck) ⊎ (v.op.family ≡ Arm arm.Nil) ⊎ (v.op.family ≡ Rv rv.Nil)

-- a result of a call that is not memory
abbrev pub IsResult : ValueRecord → Type 0
IsResult v = (is_word_result v.op.family ≡ true) ⊎ ((v.op.family ≡ SelectN) × ¬ (v.ty ≡ Mem))

-- u is an argument of v, which is no phi, and both stand in the block
abbrev pub IsTakenBy : BlockRecord → ValueRecord → ValueRecord → Type 0
IsTakenBy b u v = Contains b.values u × Contains b.values v × ¬ IsPhi v × Contains v.args u.id

-- v takes u, or needs it through its arguments in the block; a phi needs nothing there
pub data Needs (b : BlockRecord) : ValueRecord → ValueRecord → Type 0 where
  takes : (u v : ValueRecord) → IsTakenBy b u v → Needs b v u
  through : (t u v : ValueRecord) → IsTakenBy b u v → Needs b u t → Needs b v t

-- u is listed before v
abbrev pub IsListed : BlockRecord → ValueRecord → ValueRecord → Type 0
IsListed b u v = (i j : ℕ) × i < j × (slice_get b.values i ≡ Some u) × (slice_get b.values j ≡ Some v)

-- a nil check of the state, and a load of it
abbrev pub Checks : FuncRecord → BlockRecord → ValueRecord → ℕ → Type 0
Checks f b v s = Contains b.values v × IsNilCheck v × Names f v s

abbrev pub Loads : FuncRecord → BlockRecord → ValueRecord → ℕ → Type 0
Loads f b v s = Contains b.values v × IsLoad v × Names f v s

-- u comes right before v in the block
pub data ComesBefore (f : FuncRecord) (b : BlockRecord) : ValueRecord → ValueRecord → Type 0 where
  -- a value follows its arguments
  argument : (u v : ValueRecord) → IsTakenBy b u v → ComesBefore f b u v
  -- a memory value follows the loads, nil checks and results that name the state before it
  state : (u v : ValueRecord) (s : ℕ) → Contains b.values u → IsLoad u ⊎ IsNilCheck u ⊎ IsResult u → Names f u s → IsState f b v → Names f v s
      → ComesBefore f b u v
  -- the nil checks of a state follow each other as listed
  checks : (u v : ValueRecord) (s : ℕ) → Checks f b u s → Checks f b v s → IsListed b u v → ComesBefore f b u v
  -- a load that a nil check of its state needs follows those listed before the first that needs it
  needed : (u v w : ValueRecord) (s : ℕ) → Checks f b u s → Loads f b v s → Checks f b w s → Needs b w v
      → ((x : ValueRecord) → Checks f b x s → Needs b x v → ¬ IsListed b x w) → IsListed b u w → ComesBefore f b u v
  -- a load that no nil check of its state needs follows them all
  unneeded : (u v : ValueRecord) (s : ℕ) → Checks f b u s → Loads f b v s → ((x : ValueRecord) → Checks f b x s → ¬ Needs b x v)
      → ComesBefore f b u v

-- u comes before v
pub data Precedes (f : FuncRecord) (b : BlockRecord) : ValueRecord → ValueRecord → Type 0 where
  right : (u v : ValueRecord) → ComesBefore f b u v → Precedes f b u v
  onward : (t u v : ValueRecord) → ComesBefore f b t u → Precedes f b u v → Precedes f b t v
