-- What the rules ask of a value's op.
use Rattle.std.specs.Prelude.{ℤ, ◌||◌, Bool, true, false, Option, None, Some}
use Rattle.bk_ops.specs.declared.family.Family.{Family}
use Rattle.bk_ops.specs.declared.family.Family.TheVariants as op
use Rattle.bk_ops.specs.declared.family.ArmOp.TheVariants as arm
use Rattle.bk_ops.specs.declared.family.RvOp.TheVariants as rv
use Rattle.bk_ops.specs.declared.types.Ty.{Ty}
use Rattle.bk_ops.specs.declared.types.Ty.TheVariants.{Mem}

abbrev pub is_check : Family → Bool
is_check op.NilCheck = true
is_check (op.Arm arm.Nil) = true
is_check (op.Rv rv.Nil) = true
is_check _ = false

-- a use of it becomes a use of its first argument
abbrev pub is_passed : Family → Bool
is_passed op.Copy = true
is_passed f = is_check f

abbrev pub is_memory : Ty → Bool
is_memory Mem = true
is_memory _ = false

-- a nil check, or a memory value other than a phi
abbrev pub stays : Family → Ty → Bool
stays op.Phi t = false
stays op.Copy t = false
stays op.MakeResult t = false
stays op.StaticLECall t = true
stays f t = is_check f || is_memory t

-- the number of a truth value
abbrev pub truth_of : Family → ℤ → Option ℤ
truth_of op.ConstBool n = Some n
truth_of _ n = None
