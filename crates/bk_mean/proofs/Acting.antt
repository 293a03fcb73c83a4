-- What form says of the arguments and the sizes of memory values, loads and checks.
use Rattle.std.proofs.Common.{◌≡◌, ℕ, ◌<◌, ◌≤◌, refl, ap, sym, ◌∙◌, subst, arith, ◌⊎◌, inl, inr, length, Option, Some, None, Bool, true, false, ◌&&◌, ◌||◌, ◌==◌}
use Rattle.std.specs.Prelude.{ℤ, pos, negsuc, ◌≤ℤ◌, ◌<ℤ◌, if◌then◌else◌}
use Rattle.std.proofs.lemmas.Int.{ints}
use Rattle.std.proofs.lemmas.Bool.{and_parts, or_cases, eqb-true}
use Rattle.bk_ops.specs.Table.{entry, row, arm_row, rv_row, is_op, info_of}
use Rattle.bk_ops.specs.Types.{size_of_ty}
use Rattle.bk_ops.specs.declared.table.AuxKind.{AuxKind}
use Rattle.bk_ops.specs.declared.table.AuxKind.TheVariants as aux
use Rattle.bk_ops.specs.declared.table.Op.{Op}
use Rattle.bk_ops.specs.declared.table.OpInfo.{OpInfo}
use Rattle.bk_ops.specs.declared.types.Target.{Target}
use Rattle.bk_ops.specs.declared.types.Target.TheVariants.{Arm as OnArm, Riscv64 as OnRv}
use Rattle.bk_ops.specs.declared.types.Ty.{Ty}
use Rattle.bk_ops.specs.declared.types.Ty.TheVariants.{Mem}
use Rattle.bk_ops.specs.declared.family.Family.{Family}
use Rattle.bk_ops.specs.declared.family.Family.TheVariants as op
use Rattle.bk_ops.specs.declared.family.ArmOp.TheVariants as arm
use Rattle.bk_ops.specs.declared.family.RvOp.TheVariants as rv
use Rattle.bk_func.specs.declared.parts.Aux.{Aux}
use Rattle.bk_func.specs.declared.parts.Aux.TheVariants as beside
use Rattle.bk_func.specs.Records.{ValueRecord, BlockRecord, FuncRecord}
use Rattle.bk_func.specs.Numbers.{origin_of, natural, is_mem, load_size}
use Rattle.bk_func.specs.Effects.{Effect, store, zeros, move, out_word, ret_word, trap, pass, effect_of, is_load}
use Rattle.bk_func.specs.Meaning.{store_size}
use Rattle.bk_func.specs.Form.Text.{HasValue}
use Rattle.bk_func.specs.Form.Parts.{HasRange, InRange}
use Rattle.bk_func.specs.Form.Signatures.{Setting}
use Rattle.bk_mean.proofs.Roles.{loads, info_at, is_counted, row_count}
use Rattle.bk_mean.proofs.Formed.{Sound}

-- the families of an effect

abbrev is_store : Option Effect → Bool
is_store (Some store) = true
is_store _ = false

abbrev is_zeros : Option Effect → Bool
is_zeros (Some zeros) = true
is_zeros _ = false

abbrev is_move : Option Effect → Bool
is_move (Some move) = true
is_move _ = false

abbrev is_out : Option Effect → Bool
is_out (Some out_word) = true
is_out _ = false

abbrev is_ret : Option Effect → Bool
is_ret (Some ret_word) = true
is_ret _ = false

abbrev is_trap : Option Effect → Bool
is_trap (Some trap) = true
is_trap _ = false

no_pass : (t : Option Effect → Bool) → t (Some pass) ≡ false → t None ≡ false → (ty : Ty) → t (if is_mem ty then Some pass else None) ≡ true → ⊥
no_pass t a b ty e = go (is_mem ty) e
  where
    go : (u : Bool) → t (if u then Some pass else None) ≡ true → ⊥
    go true e = let d = sym a ∙ e in absurd cc
    go false e = let d = sym b ∙ e in absurd cc

abbrev Stores : Family → Type 0
Stores o = (o ≡ op.Store) ⊎ (o ≡ op.Arm arm.Store) ⊎ (o ≡ op.Arm arm.StoreB) ⊎ (o ≡ op.Rv rv.Store) ⊎ (o ≡ op.Rv rv.StoreB)

stores : (o : Family) (ty : Ty) → is_store (effect_of o ty) ≡ true → Stores o
stores op.Store ty e = inl refl
stores (op.Arm arm.Store) ty e = inr (inl refl)
stores (op.Arm arm.StoreB) ty e = inr (inr (inl refl))
stores (op.Rv rv.Store) ty e = inr (inr (inr (inl refl)))
stores (op.Rv rv.StoreB) ty e = inr (inr (inr (inr refl)))
stores op.SelectN ty e = absurd (no_pass is_store refl refl ty e)
stores (op.Arm _) ty e = absurd cc
stores (op.Rv _) ty e = absurd cc
stores _ ty e = absurd cc

zeroes : (o : Family) (ty : Ty) → is_zeros (effect_of o ty) ≡ true → (o ≡ op.Zero) ⊎ (o ≡ op.Arm arm.Zero) ⊎ (o ≡ op.Rv rv.Zero)
zeroes op.Zero ty e = inl refl
zeroes (op.Arm arm.Zero) ty e = inr (inl refl)
zeroes (op.Rv rv.Zero) ty e = inr (inr refl)
zeroes op.SelectN ty e = absurd (no_pass is_zeros refl refl ty e)
zeroes (op.Arm _) ty e = absurd cc
zeroes (op.Rv _) ty e = absurd cc
zeroes _ ty e = absurd cc

moves : (o : Family) (ty : Ty) → is_move (effect_of o ty) ≡ true → (o ≡ op.Move) ⊎ (o ≡ op.Arm arm.Move) ⊎ (o ≡ op.Rv rv.Move)
moves op.Move ty e = inl refl
moves (op.Arm arm.Move) ty e = inr (inl refl)
moves (op.Rv rv.Move) ty e = inr (inr refl)
moves op.SelectN ty e = absurd (no_pass is_move refl refl ty e)
moves (op.Arm _) ty e = absurd cc
moves (op.Rv _) ty e = absurd cc
moves _ ty e = absurd cc

outs : (o : Family) (ty : Ty) → is_out (effect_of o ty) ≡ true → o ≡ op.OutWord
outs op.OutWord ty e = refl
outs op.SelectN ty e = absurd (no_pass is_out refl refl ty e)
outs (op.Arm arm.Store) ty e = absurd cc
outs (op.Rv rv.Store) ty e = absurd cc
outs (op.Arm _) ty e = absurd cc
outs (op.Rv _) ty e = absurd cc
outs _ ty e = absurd cc

rets : (o : Family) (ty : Ty) → is_ret (effect_of o ty) ≡ true → o ≡ op.RetWord
rets op.RetWord ty e = refl
rets op.SelectN ty e = absurd (no_pass is_ret refl refl ty e)
rets (op.Arm arm.Store) ty e = absurd cc
rets (op.Rv rv.Store) ty e = absurd cc
rets (op.Arm _) ty e = absurd cc
rets (op.Rv _) ty e = absurd cc
rets _ ty e = absurd cc

traps : (o : Family) (ty : Ty) → is_trap (effect_of o ty) ≡ true → o ≡ op.Trap
traps op.Trap ty e = refl
traps op.SelectN ty e = absurd (no_pass is_trap refl refl ty e)
traps (op.Arm arm.Store) ty e = absurd cc
traps (op.Rv rv.Store) ty e = absurd cc
traps (op.Arm _) ty e = absurd cc
traps (op.Rv _) ty e = absurd cc
traps _ ty e = absurd cc

-- sizes

size_small : (ty : Ty) (t : Target) → size_of_ty ty t ≤ 8
size_small Mem OnArm = omega arith
size_small _ OnArm = omega arith
size_small Mem OnRv = omega arith
size_small _ OnRv = omega arith

four_small : (a b : ℕ) → ((a == 1 || a == 2 || a == 4) && b == 0) ≡ true → a ≤ 8
four_small a b e = go (or_cases (a == 1 || a == 2) (a == 4) (and_parts (a == 1 || a == 2 || a == 4) (b == 0) e).0)
  where
    go : ((a == 1 || a == 2) ≡ true) ⊎ ((a == 4) ≡ true) → a ≤ 8
    go (inr q) = let k = eqb-true a 4 q in omega (arith, k)
    go (inl q) = elim (or_cases (a == 1) (a == 2) q) as (λ _. a ≤ 8) [
      | inl r ↦ (let k = eqb-true a 1 r in omega (arith, k))
      | inr r ↦ (let k = eqb-true a 2 r in omega (arith, k))
    ]

eight_small : (a b : ℕ) → ((a == 1 || a == 2 || a == 4 || a == 8) && b == 0) ≡ true → a ≤ 8
eight_small a b e = go (or_cases (a == 1 || a == 2 || a == 4) (a == 8) (and_parts (a == 1 || a == 2 || a == 4 || a == 8) (b == 0) e).0)
  where
    go : ((a == 1 || a == 2 || a == 4) ≡ true) ⊎ ((a == 8) ≡ true) → a ≤ 8
    go (inr q) = let k = eqb-true a 8 q in omega (arith, k)
    go (inl q) = elim (or_cases (a == 1 || a == 2) (a == 4) q) as (λ _. a ≤ 8) [
      | inl r ↦ (elim (or_cases (a == 1) (a == 2) r) as (λ _. a ≤ 8) [
        | inl x ↦ (let k = eqb-true a 1 x in omega (arith, k))
        | inr x ↦ (let k = eqb-true a 2 x in omega (arith, k))
      ])
      | inr r ↦ (let k = eqb-true a 4 r in omega (arith, k))
    ]

op_at : (o : Op) (g : Family) → is_op o.family o.a o.b ≡ true → o.family ≡ g → is_op g o.a o.b ≡ true
op_at o g e d = (let P : Family → Type 0 = λ x. is_op x o.a o.b ≡ true in subst P d e)

arm_load : (a b : ℕ) → is_op (op.Arm arm.Load) a b ≡ true → a ≤ 8
unfolding is_op row entry arm_row
arm_load a b e = four_small a b e

arm_store : (a b : ℕ) → is_op (op.Arm arm.Store) a b ≡ true → a ≤ 8
unfolding is_op row entry arm_row
arm_store a b e = four_small a b e

rv_load : (a b : ℕ) → is_op (op.Rv rv.Load) a b ≡ true → a ≤ 8
unfolding is_op row entry rv_row
rv_load a b e = eight_small a b e

rv_store : (a b : ℕ) → is_op (op.Rv rv.Store) a b ≡ true → a ≤ 8
unfolding is_op row entry rv_row
rv_store a b e = eight_small a b e

-- a load reads at most 8 bytes
pub load_small : (s : Setting) (f : FuncRecord) → Sound s f → (b : BlockRecord) (v : ValueRecord) → HasValue f b v → is_load (origin_of v.op.family) ≡ true → (t : Target) → load_size t v.ty v.op v.op.family ≤ 8
load_small s f h b v i e t = go (loads v.op.family e)
  where
    go : (v.op.family ≡ op.Load) ⊎ (v.op.family ≡ op.Arm arm.Load) ⊎ (v.op.family ≡ op.Rv rv.Load) → load_size t v.ty v.op v.op.family ≤ 8
    go (inl d) = (let P : Family → Type 0 = λ g. load_size t v.ty v.op g ≤ 8 in subst P (sym d) (size_small v.ty t))
    go (inr (inl d)) = (let P : Family → Type 0 = λ g. load_size t v.ty v.op g ≤ 8 in subst P (sym d) (arm_load v.op.a v.op.b (op_at v.op (op.Arm arm.Load) (h.rows b v i).op d)))
    go (inr (inr d)) = (let P : Family → Type 0 = λ g. load_size t v.ty v.op g ≤ 8 in subst P (sym d) (rv_load v.op.a v.op.b (op_at v.op (op.Rv rv.Load) (h.rows b v i).op d)))

beside_small : (t : Target) (x : Aux) (o : Op) → store_size t x o op.Store ≤ 8
beside_small t (beside.Ty ty) o = size_small ty t
beside_small t _ o = omega arith

-- a store has a pointer and a number, and writes at most 8 bytes
pub store_acted : (s : Setting) (f : FuncRecord) → Sound s f → (b : BlockRecord) (v : ValueRecord) → HasValue f b v → effect_of v.op.family v.ty ≡ Some store → (t : Target) →
    (1 < length v.args) × (store_size t v.aux v.op v.op.family ≤ 8)
unfolding row entry arm_row rv_row
store_acted s f h b v i e t = go (stores v.op.family v.ty (ap is_store e))
  where
    three : (g : Family) → v.op.family ≡ g → (row g v.op.a v.op.b).info.arity ≡ Some 3 → is_counted g ≡ true → 1 < length v.args
    three g d a q = let k = row_count s f b v g 3 (h.rows b v i) d q a in omega (arith, k)

    size : (g : Family) → v.op.family ≡ g → store_size t v.aux v.op g ≤ 8 → store_size t v.aux v.op v.op.family ≤ 8
    size g d k = (let P : Family → Type 0 = λ x. store_size t v.aux v.op x ≤ 8 in subst P (sym d) k)

    go : Stores v.op.family → (1 < length v.args) × (store_size t v.aux v.op v.op.family ≤ 8)
    go (inl d) = (three op.Store d refl refl, size op.Store d (beside_small t v.aux v.op))
    go (inr (inl d)) = (three (op.Arm arm.Store) d refl refl, size (op.Arm arm.Store) d (by_arm v.aux d))
      where
        by_arm : (x : Aux) → v.op.family ≡ op.Arm arm.Store → store_size t x v.op (op.Arm arm.Store) ≤ 8
        by_arm (beside.Ty ty) d = arm_store v.op.a v.op.b (op_at v.op (op.Arm arm.Store) (h.rows b v i).op d)
        by_arm _ d = arm_store v.op.a v.op.b (op_at v.op (op.Arm arm.Store) (h.rows b v i).op d)
    go (inr (inr (inl d))) = (three (op.Arm arm.StoreB) d refl refl, size (op.Arm arm.StoreB) d (by_byte v.aux))
      where
        by_byte : (x : Aux) → store_size t x v.op (op.Arm arm.StoreB) ≤ 8
        by_byte (beside.Ty ty) = omega arith
        by_byte _ = omega arith
    go (inr (inr (inr (inl d)))) = (three (op.Rv rv.Store) d refl refl, size (op.Rv rv.Store) d (by_rv v.aux d))
      where
        by_rv : (x : Aux) → v.op.family ≡ op.Rv rv.Store → store_size t x v.op (op.Rv rv.Store) ≤ 8
        by_rv (beside.Ty ty) d = rv_store v.op.a v.op.b (op_at v.op (op.Rv rv.Store) (h.rows b v i).op d)
        by_rv _ d = rv_store v.op.a v.op.b (op_at v.op (op.Rv rv.Store) (h.rows b v i).op d)
    go (inr (inr (inr (inr d)))) = (three (op.Rv rv.StoreB) d refl refl, size (op.Rv rv.StoreB) d (by_byte v.aux))
      where
        by_byte : (x : Aux) → store_size t x v.op (op.Rv rv.StoreB) ≤ 8
        by_byte (beside.Ty ty) = omega arith
        by_byte _ = omega arith

counted : (s : Setting) (f : FuncRecord) → Sound s f → (b : BlockRecord) (v : ValueRecord) → HasValue f b v → (g : Family) (n : ℕ) → v.op.family ≡ g → is_counted g ≡ true → (row g v.op.a v.op.b).info.arity ≡ Some n → length v.args ≡ n
counted s f h b v i g n d q a = row_count s f b v g n (h.rows b v i) d q a

pub zeros_acted : (s : Setting) (f : FuncRecord) → Sound s f → (b : BlockRecord) (v : ValueRecord) → HasValue f b v → effect_of v.op.family v.ty ≡ Some zeros → 0 < length v.args
unfolding row entry arm_row rv_row
zeros_acted s f h b v i e = go (zeroes v.op.family v.ty (ap is_zeros e))
  where
    go : (v.op.family ≡ op.Zero) ⊎ (v.op.family ≡ op.Arm arm.Zero) ⊎ (v.op.family ≡ op.Rv rv.Zero) → 0 < length v.args
    go (inl d) = let k = counted s f h b v i op.Zero 2 d refl refl in omega (arith, k)
    go (inr (inl d)) = let k = counted s f h b v i (op.Arm arm.Zero) 2 d refl refl in omega (arith, k)
    go (inr (inr d)) = let k = counted s f h b v i (op.Rv rv.Zero) 2 d refl refl in omega (arith, k)

pub move_acted : (s : Setting) (f : FuncRecord) → Sound s f → (b : BlockRecord) (v : ValueRecord) → HasValue f b v → effect_of v.op.family v.ty ≡ Some move → 1 < length v.args
unfolding row entry arm_row rv_row
move_acted s f h b v i e = go (moves v.op.family v.ty (ap is_move e))
  where
    go : (v.op.family ≡ op.Move) ⊎ (v.op.family ≡ op.Arm arm.Move) ⊎ (v.op.family ≡ op.Rv rv.Move) → 1 < length v.args
    go (inl d) = let k = counted s f h b v i op.Move 3 d refl refl in omega (arith, k)
    go (inr (inl d)) = let k = counted s f h b v i (op.Arm arm.Move) 3 d refl refl in omega (arith, k)
    go (inr (inr d)) = let k = counted s f h b v i (op.Rv rv.Move) 3 d refl refl in omega (arith, k)

pub out_acted : (s : Setting) (f : FuncRecord) → Sound s f → (b : BlockRecord) (v : ValueRecord) → HasValue f b v → effect_of v.op.family v.ty ≡ Some out_word → 0 < length v.args
unfolding row entry
out_acted s f h b v i e = let k = counted s f h b v i op.OutWord 2 (outs v.op.family v.ty (ap is_out e)) refl refl in omega (arith, k)

pub ret_acted : (s : Setting) (f : FuncRecord) → Sound s f → (b : BlockRecord) (v : ValueRecord) → HasValue f b v → effect_of v.op.family v.ty ≡ Some ret_word → 0 < length v.args
unfolding row entry
ret_acted s f h b v i e = let k = counted s f h b v i op.RetWord 2 (rets v.op.family v.ty (ap is_ret e)) refl refl in omega (arith, k)

-- a trap's number is small
trap_range : (s : Setting) (f : FuncRecord) (v : ValueRecord) → v.op.family ≡ op.Trap → InRange s f v v.op.family → natural v.int < 7
unfolding InRange
trap_range s f v d h = go v.int (let P : Family → Type 0 = λ g. InRange s f v g in subst P d h)
  where
    go : (n : ℤ) → (pos 1 ≤ℤ n) × (n <ℤ pos 7) → natural n < 7
    go (pos n) q = let l = q.1 in grind (arith, ints)
    go (negsuc n) q = omega arith

pub trap_acted : (s : Setting) (f : FuncRecord) → Sound s f → (b : BlockRecord) (v : ValueRecord) → HasValue f b v → effect_of v.op.family v.ty ≡ Some trap → natural v.int < 7
unfolding row entry
trap_acted s f h b v i e =
    let d = traps v.op.family v.ty (ap is_trap e) in
    let k : (info_of v.op).aux ≡ aux.Int = ap (λ (x : OpInfo). x.aux) (info_at v.op op.Trap (h.rows b v i).op d) in
    let P : AuxKind → Type 0 = λ x. HasRange s f v x in
    trap_range s f v d (subst P k (h.ranges b v i))
