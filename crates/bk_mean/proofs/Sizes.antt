-- How many bytes stores write.
use Rattle.std.proofs.Common.{◌≡◌, refl, true, false}
use Rattle.bk_ops.specs.declared.family.Family.{Family}
use Rattle.bk_ops.specs.declared.family.Family.TheVariants as op
use Rattle.bk_ops.specs.declared.family.ArmOp.TheVariants as arm
use Rattle.bk_ops.specs.declared.family.RvOp.TheVariants as rv
use Rattle.bk_ops.specs.declared.table.Op.{Op}
use Rattle.bk_ops.specs.declared.types.Target.{Target}
use Rattle.bk_func.specs.declared.parts.Aux.{Aux}
use Rattle.bk_func.specs.declared.parts.Aux.TheVariants as beside
use Rattle.bk_func.specs.Meaning.{store_size}
use Rattle.bk_mean.specs.Step.{is_store, is_byte_store, size_beside}

pub size_store : (t : Target) (x : Aux) (o : Op) (m : Family) → is_store m ≡ true → store_size t x o m ≡ size_beside t x
size_store t (beside.Ty ty) o op.Store h = refl
size_store t beside.Nothing o op.Store h = refl
size_store t (beside.Sym s) o op.Store h = refl
size_store t (beside.Arg k) o op.Store h = refl
size_store t x o _ h = absurd cc

pub size_byte : (t : Target) (x : Aux) (o : Op) (m : Family) → is_byte_store m ≡ true → store_size t x o m ≡ 1
size_byte t (beside.Ty ty) o (op.Arm arm.StoreB) h = refl
size_byte t beside.Nothing o (op.Arm arm.StoreB) h = refl
size_byte t (beside.Sym s) o (op.Arm arm.StoreB) h = refl
size_byte t (beside.Arg k) o (op.Arm arm.StoreB) h = refl
size_byte t (beside.Ty ty) o (op.Rv rv.StoreB) h = refl
size_byte t beside.Nothing o (op.Rv rv.StoreB) h = refl
size_byte t (beside.Sym s) o (op.Rv rv.StoreB) h = refl
size_byte t (beside.Arg k) o (op.Rv rv.StoreB) h = refl
size_byte t x o _ h = absurd cc

pub size_other : (t : Target) (x : Aux) (o : Op) (m : Family) → is_store m ≡ false → is_byte_store m ≡ false → store_size t x o m ≡ o.a
size_other t x o op.Store h k = absurd cc
size_other t x o (op.Arm arm.StoreB) h k = absurd cc
size_other t x o (op.Rv rv.StoreB) h k = absurd cc
size_other t (beside.Ty ty) o _ h k = refl
size_other t beside.Nothing o _ h k = refl
size_other t (beside.Sym s) o _ h k = refl
size_other t (beside.Arg j) o _ h k = refl
