-- Whether a name has an op, by what the table says of it.
use Rattle.std.proofs.Common.{◌≡◌, ◌∙◌, sym, refl, ap, ℕ, ◌==◌, Bool, true, false, cond}
use Rattle.std.proofs.lemmas.Bool.{and_parts}
use Rattle.std.specs.Option.{is_some}
use Rattle.bk_ops.specs.Table.{row, entry, arm_row, rv_row, is_op, is_width, info_of, unknown}
use Rattle.bk_ops.specs.declared.family.Family.{Family}
use Rattle.bk_ops.specs.declared.family.Family.TheVariants as op
use Rattle.bk_ops.specs.declared.family.ArmOp.{ArmOp}
use Rattle.bk_ops.specs.declared.family.ArmOp.TheVariants as arm
use Rattle.bk_ops.specs.declared.family.RvOp.{RvOp}
use Rattle.bk_ops.specs.declared.family.RvOp.TheVariants as rv
use Rattle.bk_ops.specs.declared.table.AuxKind.TheVariants.{Int}
use Rattle.bk_ops.specs.declared.table.Class.TheVariants.{Void}
use Rattle.bk_ops.specs.declared.table.Op.{Op}

arm_counted : (m : ArmOp) → is_some (arm_row m).info.arity ≡ true
unfolding arm_row entry
arm_counted arm.Const = refl
arm_counted _ = refl

rv_counted : (m : RvOp) → is_some (rv_row m).info.arity ≡ true
unfolding rv_row entry
rv_counted rv.Const = refl
rv_counted _ = refl

-- what gives nothing takes a known count
counted : (f : Family) (a b : ℕ) → (row f a b).info.result ≡ Void → is_some (row f a b).info.arity ≡ true
unfolding row entry
counted op.Phi a b h = absurd (cc)
counted op.StaticLECall a b h = absurd (cc)
counted op.MakeResult a b h = absurd (cc)
counted op.RetRegs a b h = absurd (cc)
counted op.CallRegs a b h = absurd (cc)
counted (op.Arm m) a b h = arm_counted m
counted (op.Rv m) a b h = rv_counted m
counted _ a b h = refl

known : (o : Op) (b : Bool) → is_op o.family o.a o.b ≡ b → info_of o ≡ cond b (row o.family o.a o.b).info unknown
unfolding info_of
known o b e = rw e refl

pub op_by_count : (o : Op) → (info_of o).result ≡ Void → is_some (info_of o).arity ≡ is_op o.family o.a o.b
op_by_count o h = by (is_op o.family o.a o.b) refl
  where
    by : (b : Bool) → is_op o.family o.a o.b ≡ b → is_some (info_of o).arity ≡ is_op o.family o.a o.b
    by true e = let k = known o true e in ap (λ i. is_some i.arity) k ∙ (counted o.family o.a o.b (sym (ap (λ i. i.result) k) ∙ h) ∙ sym e)
    by false e = ap (λ i. is_some i.arity) (known o false e) ∙ sym e

pub op_by_result : (o : Op) → ((info_of o).result ≡ Void → ⊥) → true ≡ is_op o.family o.a o.b
op_by_result o h = by (is_op o.family o.a o.b) refl
  where
    by : (b : Bool) → is_op o.family o.a o.b ≡ b → true ≡ is_op o.family o.a o.b
    by true e = sym e
    by false e = absurd (h (ap (λ i. i.result) (known o false e)))

-- a constant has the width of a number
const_allows : (a b : ℕ) → is_op op.Const a b ≡ true → is_width a ≡ true
unfolding is_op row entry
const_allows a b t = (and_parts (is_width a) (b == 0) t).0

pub const_width : (o : Op) → o.family ≡ op.Const → (info_of o).aux ≡ Int → is_width o.a ≡ true
const_width o e h = by (is_op o.family o.a o.b) refl
  where
    by : (b : Bool) → is_op o.family o.a o.b ≡ b → is_width o.a ≡ true
    by true t = const_allows o.a o.b (rw e at t)
    by false t = let k = ap (λ i. i.aux) (known o false t) in absurd (cc)
