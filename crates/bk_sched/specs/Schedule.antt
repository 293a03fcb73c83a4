-- The order in which the values of a block are done.
use Rattle.std.specs.Prelude.{◌≡◌, ℕ, ◌+◌, ◌<◌, ◌≤◌, Bool, if◌then◌else◌, List, [], ◌∷◌, ◌++◌, map}
use Rattle.std.specs.List.{Contains}
use Rattle.bk_ops.specs.Families.{is_phi}
use Rattle.bk_ops.specs.declared.family.Family.{Family}
use Rattle.bk_ops.specs.declared.family.Family.TheVariants as op
use Rattle.bk_ops.specs.declared.family.ArmOp.TheVariants as arm
use Rattle.bk_ops.specs.declared.family.RvOp.TheVariants as rv
use Rattle.bk_func.specs.Records.{ValueRecord, BlockRecord}
use Rattle.bk_sched.specs.Order.{Precedes, is_state}

-- words in registers first, then words of arguments in memory, nil checks, words of results, memory values, and others
abbrev pub score_by : Family → Bool → ℕ
score_by op.ArgReg gives = 0
score_by op.ResReg gives = 0
score_by op.ArgWord gives = 1
score_by op.NilCheck gives = 2
score_by (op.Arm arm.Nil) gives = 2
score_by (op.Rv rv.Nil) gives = 2
score_by op.ResWord gives = 3
score_by _ gives = if gives then 4 else 5

-- phis come before all, then the least score
abbrev pub rank_by : Family → Bool → ℕ
rank_by f gives = if is_phi f then 0 else score_by f gives + 1

abbrev pub rank_of : ValueRecord → ℕ
rank_of v = rank_by v.op.family (is_state v)

-- no value that is left comes before v
abbrev pub IsReady : BlockRecord → List ValueRecord → ValueRecord → Type 0
IsReady b left v = (u : ValueRecord) → Contains left u → ¬ Precedes b u v

-- of values that are left, in the order of the list, the ready one with the least rank is next, the first of several, as long
-- as one is ready
pub data Scheduled (b : BlockRecord) : List ValueRecord → List ValueRecord → Type 0 where
  done : (xs : List ValueRecord) → ((v : ValueRecord) → Contains xs v → ¬ IsReady b xs v) → Scheduled b xs []
  next : (xs ys zs : List ValueRecord) (v : ValueRecord) → IsReady b (xs ++ v ∷ ys) v
      → ((u : ValueRecord) → Contains xs u → IsReady b (xs ++ v ∷ ys) u → rank_of v < rank_of u)
      → ((u : ValueRecord) → Contains ys u → IsReady b (xs ++ v ∷ ys) u → rank_of v ≤ rank_of u)
      → Scheduled b (xs ++ ys) zs → Scheduled b (xs ++ v ∷ ys) (v ∷ zs)

-- the numbers of the block's values in the order in which they are done
abbrev pub IsSchedule : BlockRecord → List ℕ → Type 0
IsSchedule b ids = (zs : List ValueRecord) × Scheduled b b.values zs × (ids ≡ map (λ v. v.id) zs)
