-- The values with an effect are the states of a block that name another state, or a call.
use Rattle.std.proofs.Common.{◌≡◌, ℕ, refl, ap, sym, ◌∙◌, subst, arith, ◌⊎◌, inl, inr, Some, None, Bool, true, false}
use Rattle.std.specs.Prelude.{is_some, if◌then◌else◌, slice_get}
use Rattle.bk_ops.specs.Table.{entry, row, arm_row, rv_row}
use Rattle.bk_ops.specs.Types.{width_of, word_width}
use Rattle.bk_ops.specs.declared.table.Class.{Class}
use Rattle.bk_ops.specs.declared.table.Class.TheVariants.{Mem as State}
use Rattle.bk_ops.specs.declared.table.OpInfo.{OpInfo}
use Rattle.bk_ops.specs.declared.types.Target.{Target}
use Rattle.bk_ops.specs.declared.types.Target.TheVariants.{Arm as OnArm, Riscv64 as OnRv}
use Rattle.bk_ops.specs.declared.types.Ty.{Ty}
use Rattle.bk_ops.specs.declared.types.Ty.TheVariants.{Mem, Void}
use Rattle.bk_ops.specs.declared.family.Family.{Family}
use Rattle.bk_ops.specs.declared.family.Family.TheVariants as op
use Rattle.bk_ops.specs.declared.family.ArmOp.TheVariants as arm
use Rattle.bk_ops.specs.declared.family.RvOp.TheVariants as rv
use Rattle.bk_func.specs.Records.{ValueRecord, BlockRecord, FuncRecord}
use Rattle.bk_func.specs.Numbers.{origin_of, is_mem}
use Rattle.bk_func.specs.Effects.{pass, effect_of, has_effect, is_load, is_check}
use Rattle.bk_func.specs.Form.Text.{HasValue}
use Rattle.bk_func.specs.Form.States.{IsState, NamesAt}
use Rattle.bk_func.specs.Form.Signatures.{Setting}
use Rattle.bk_func.specs.Form.Shapes.{HasTypes, Gives, GivesByType, GivesWord, IsData, FitsBits}
use Rattle.bk_mean.proofs.Roles.{loads, checks, only_mem, info_at, result_families, calls_result}

-- what an effect tells of the op
abbrev Acts : Family → Ty → ℕ → ℕ → Type 0
Acts o ty a b = (o ≡ op.StaticLECall) ⊎ ((o ≡ op.SelectN) × (ty ≡ Mem)) ⊎ ((row o a b).info.result ≡ State)

acts : (o : Family) (ty : Ty) (a b : ℕ) → is_some (effect_of o ty) ≡ true → Acts o ty a b
unfolding row entry arm_row rv_row
acts op.Store ty a b e = inr (inr refl)
acts (op.Arm arm.Store) ty a b e = inr (inr refl)
acts (op.Arm arm.StoreB) ty a b e = inr (inr refl)
acts (op.Arm arm.Zero) ty a b e = inr (inr refl)
acts (op.Arm arm.Move) ty a b e = inr (inr refl)
acts (op.Rv rv.Store) ty a b e = inr (inr refl)
acts (op.Rv rv.StoreB) ty a b e = inr (inr refl)
acts (op.Rv rv.Zero) ty a b e = inr (inr refl)
acts (op.Rv rv.Move) ty a b e = inr (inr refl)
acts op.Zero ty a b e = inr (inr refl)
acts op.Move ty a b e = inr (inr refl)
acts op.PanicBounds ty a b e = inr (inr refl)
acts op.StaticLECall ty a b e = inl refl
acts op.Call ty a b e = inr (inr refl)
acts op.CallRegs ty a b e = inr (inr refl)
acts op.OutWord ty a b e = inr (inr refl)
acts op.RetWord ty a b e = inr (inr refl)
acts op.RetRegs ty a b e = inr (inr refl)
acts op.Trap ty a b e = inr (inr refl)
acts op.SelectN ty a b e = inr (inl (refl, go (is_mem ty) refl e))
  where
    go : (t : Bool) → is_mem ty ≡ t → is_some (if t then Some pass else None) ≡ true → ty ≡ Mem
    go true q d = only_mem ty q
    go false q d = absurd cc
acts (op.Arm _) ty a b e = absurd cc
acts (op.Rv _) ty a b e = absurd cc
acts _ ty a b e = absurd cc

pub no_effect : (v : ValueRecord) (o : Family) → is_some (effect_of o v.ty) ≡ false → has_effect v ≡ true → ¬ (v.op.family ≡ o)
no_effect v o n h e = let d : is_some (effect_of v.op.family v.ty) ≡ is_some (effect_of o v.ty) = ap (λ (x : Family). is_some (effect_of x v.ty)) e in absurd cc

-- a value with an effect is a state of its block
pub effect_is_state : (s : Setting) (f : FuncRecord) (b : BlockRecord) (v : ValueRecord) → HasTypes s f v → HasValue f b v → has_effect v ≡ true → IsState f b v
effect_is_state s f b v t i e = (i, no_effect v op.Copy refl e, no_effect v op.MakeResult refl e, go (acts v.op.family v.ty v.op.a v.op.b e), λ q. absurd (no_effect v op.InitMem refl e q))
  where
    go : Acts v.op.family v.ty v.op.a v.op.b → (v.op.family ≡ op.StaticLECall) ⊎ (v.ty ≡ Mem)
    go (inl o) = inl o
    go (inr (inl q)) = inr q.1
    go (inr (inr r)) =
        let P : Class → Type 0 = λ c. Gives s f v c in
        inr (subst P (ap (λ (x : OpInfo). x.result) (info_at v.op v.op.family t.op refl) ∙ r) t.result)

-- the ops with memory
abbrev OfMemory : Family → Ty → Type 0
OfMemory o ty = (is_some (effect_of o ty) ≡ true) ⊎ (is_load (origin_of o) ≡ true) ⊎ (is_check (origin_of o) ≡ true) ⊎ (o ≡ op.MakeResult) ⊎ (o ≡ op.InitMem)

of_memory : (o : Family) (ty : Ty) (a b : ℕ) → (row o a b).info.memory ≡ true → OfMemory o ty
unfolding row entry arm_row rv_row
of_memory op.Store ty a b e = inl refl
of_memory (op.Arm arm.Store) ty a b e = inl refl
of_memory (op.Arm arm.StoreB) ty a b e = inl refl
of_memory (op.Arm arm.Zero) ty a b e = inl refl
of_memory (op.Arm arm.Move) ty a b e = inl refl
of_memory (op.Arm arm.Load) ty a b e = inr (inl refl)
of_memory (op.Arm arm.Nil) ty a b e = inr (inr (inl refl))
of_memory (op.Rv rv.Store) ty a b e = inl refl
of_memory (op.Rv rv.StoreB) ty a b e = inl refl
of_memory (op.Rv rv.Zero) ty a b e = inl refl
of_memory (op.Rv rv.Move) ty a b e = inl refl
of_memory (op.Rv rv.Load) ty a b e = inr (inl refl)
of_memory (op.Rv rv.Nil) ty a b e = inr (inr (inl refl))
of_memory op.Zero ty a b e = inl refl
of_memory op.Move ty a b e = inl refl
of_memory op.PanicBounds ty a b e = inl refl
of_memory op.StaticLECall ty a b e = inl refl
of_memory op.Call ty a b e = inl refl
of_memory op.CallRegs ty a b e = inl refl
of_memory op.OutWord ty a b e = inl refl
of_memory op.RetWord ty a b e = inl refl
of_memory op.RetRegs ty a b e = inl refl
of_memory op.Trap ty a b e = inl refl
of_memory op.Load ty a b e = inr (inl refl)
of_memory op.NilCheck ty a b e = inr (inr (inl refl))
of_memory op.MakeResult ty a b e = inr (inr (inr (inl refl)))
of_memory op.InitMem ty a b e = inr (inr (inr (inr refl)))
of_memory (op.Arm _) ty a b e = absurd cc
of_memory (op.Rv _) ty a b e = absurd cc
of_memory _ ty a b e = absurd cc

-- memory has no bits

no_data : (s : Setting) (ty : Ty) → ty ≡ Mem → IsData s ty → ⊥
no_data s ty e d = d (ap (λ (x : Ty). width_of x s.target) e)

a_word : (t : Target) → word_width t ≡ 0 → ⊥
a_word OnArm e = absurd (omega (arith, e))
a_word OnRv e = absurd (omega (arith, e))

no_word : (s : Setting) (ty : Ty) → ty ≡ Mem → FitsBits s (word_width s.target) ty → ⊥
no_word s ty e h = go s.loose refl h
  where
    go : (t : Bool) → s.loose ≡ t → FitsBits (record s { loose = t }) (word_width s.target) ty → ⊥
    go true q d = d (ap (λ (x : Ty). width_of x s.target) e)
    go false q d = a_word s.target (sym d ∙ ap (λ (x : Ty). width_of x s.target) e)

result_at : (s : Setting) (f : FuncRecord) (v : ValueRecord) (o : Family) → HasTypes s f v → v.op.family ≡ o → Gives s f v (row o v.op.a v.op.b).info.result
result_at s f v o t e = (let P : Class → Type 0 = λ c. Gives s f v c in subst P (ap (λ (x : OpInfo). x.result) (info_at v.op o t.op e)) t.result)

by_type_load : (s : Setting) (f : FuncRecord) (v : ValueRecord) → v.op.family ≡ op.Load → GivesByType s f v v.op.family → IsData s v.ty
unfolding GivesByType
by_type_load s f v e h = (let P : Family → Type 0 = λ o. GivesByType s f v o in subst P e h)

by_word_arm : (s : Setting) (f : FuncRecord) (v : ValueRecord) → v.op.family ≡ op.Arm arm.Load → GivesWord s f v v.op.family → FitsBits s (word_width s.target) v.ty
unfolding GivesWord
by_word_arm s f v e h = (let P : Family → Type 0 = λ o. GivesWord s f v o in subst P e h)

by_word_rv : (s : Setting) (f : FuncRecord) (v : ValueRecord) → v.op.family ≡ op.Rv rv.Load → GivesWord s f v v.op.family → FitsBits s (word_width s.target) v.ty
unfolding GivesWord
by_word_rv s f v e h = (let P : Family → Type 0 = λ o. GivesWord s f v o in subst P e h)

-- a load is no memory, and neither is a nil check
pub load_no_memory : (s : Setting) (f : FuncRecord) (v : ValueRecord) → HasTypes s f v → is_load (origin_of v.op.family) ≡ true → ¬ (v.ty ≡ Mem)
unfolding row entry arm_row rv_row
load_no_memory s f v t e m = go (loads v.op.family e)
  where
    go : (v.op.family ≡ op.Load) ⊎ (v.op.family ≡ op.Arm arm.Load) ⊎ (v.op.family ≡ op.Rv rv.Load) → ⊥
    go (inl o) = no_data s v.ty m (by_type_load s f v o (result_at s f v op.Load t o))
    go (inr (inl o)) = no_word s v.ty m (by_word_arm s f v o (result_at s f v (op.Arm arm.Load) t o))
    go (inr (inr o)) = no_word s v.ty m (by_word_rv s f v o (result_at s f v (op.Rv rv.Load) t o))

nothing_or_word : (s : Setting) (ty : Ty) → ty ≡ Mem → (ty ≡ Void) ⊎ FitsBits s (word_width s.target) ty → ⊥
nothing_or_word s ty m (inl e) = let d = sym m ∙ e in absurd cc
nothing_or_word s ty m (inr h) = no_word s ty m h

pub check_no_memory : (s : Setting) (f : FuncRecord) (v : ValueRecord) → HasTypes s f v → is_check (origin_of v.op.family) ≡ true → ¬ (v.ty ≡ Mem)
unfolding row entry arm_row rv_row
check_no_memory s f v t e m = go (checks v.op.family e)
  where
    go : (v.op.family ≡ op.NilCheck) ⊎ (v.op.family ≡ op.Arm arm.Nil) ⊎ (v.op.family ≡ op.Rv rv.Nil) → ⊥
    go (inl o) = nothing_or_word s v.ty m (result_at s f v op.NilCheck t o)
    go (inr (inl o)) = nothing_or_word s v.ty m (result_at s f v (op.Arm arm.Nil) t o)
    go (inr (inr o)) = nothing_or_word s v.ty m (result_at s f v (op.Rv rv.Nil) t o)

by_res_word : (s : Setting) (f : FuncRecord) (v : ValueRecord) → (v.op.family ≡ op.ResWord) ⊎ (v.op.family ≡ op.ResReg) → GivesWord s f v v.op.family → IsData s v.ty
unfolding GivesWord
by_res_word s f v (inl e) h = (let P : Family → Type 0 = λ o. GivesWord s f v o in subst P e h).0
by_res_word s f v (inr e) h = (let P : Family → Type 0 = λ o. GivesWord s f v o in subst P e h).0

res_word_no_memory : (s : Setting) (f : FuncRecord) (v : ValueRecord) → HasTypes s f v → (v.op.family ≡ op.ResWord) ⊎ (v.op.family ≡ op.ResReg) → ¬ (v.ty ≡ Mem)
unfolding row entry
res_word_no_memory s f v t (inl o) m = no_data s v.ty m (by_res_word s f v (inl o) (result_at s f v op.ResWord t o))
res_word_no_memory s f v t (inr o) m = no_data s v.ty m (by_res_word s f v (inr o) (result_at s f v op.ResReg t o))

other_call : (o : Family) (v : ValueRecord) → v.op.family ≡ o → (v.op.family ≡ op.StaticLECall) ⊎ (v.ty ≡ Mem) → ¬ (o ≡ op.StaticLECall) → v.ty ≡ Mem
other_call o v e (inl c) n = absurd (n (sym e ∙ c))
other_call o v e (inr m) n = m

-- a state of a block that names a state has an effect
pub named_effect : (s : Setting) (f : FuncRecord) (b : BlockRecord) (v : ValueRecord) → HasTypes s f v → IsState f b v → (k n : ℕ) → NamesAt v k → slice_get v.args k ≡ Some n → ¬ (v.op.family ≡ op.InitMem) →
    has_effect v ≡ true
named_effect s f b v t i k n (inl c) g z = absurd (i.1 c.0.0)
named_effect s f b v t i k n (inr (inl c)) g z = go (result_families v (calls_result v.op.family c.0))
  where
    go : (v.op.family ≡ op.SelectN) ⊎ (v.op.family ≡ op.ResWord) ⊎ (v.op.family ≡ op.ResReg) → has_effect v ≡ true
    go (inl o) = let m = other_call op.SelectN v o i.3 (λ e. cc) in rw (o, m) refl
    go (inr (inl o)) = absurd (res_word_no_memory s f v t (inl o) (other_call op.ResWord v o i.3 (λ e. cc)))
    go (inr (inr o)) = absurd (res_word_no_memory s f v t (inr o) (other_call op.ResReg v o i.3 (λ e. cc)))
named_effect s f b v t i k n (inr (inr c)) g z =
    go (of_memory v.op.family v.ty v.op.a v.op.b (sym (ap (λ (x : OpInfo). x.memory) (info_at v.op v.op.family t.op refl)) ∙ c.0))
  where
    is_called : (is_some (effect_of v.op.family v.ty) ≡ true) ⊎ (v.ty ≡ Mem) → (v.ty ≡ Mem → ⊥) → has_effect v ≡ true
    is_called (inl e) n = e
    is_called (inr m) n = absurd (n m)

    called : is_some (effect_of v.op.family v.ty) ≡ true ⊎ (v.ty ≡ Mem)
    called = elim i.3 as (λ _. (is_some (effect_of v.op.family v.ty) ≡ true) ⊎ (v.ty ≡ Mem)) [
      | inl o ↦ inl (rw o refl)
      | inr m ↦ inr m
    ]

    go : OfMemory v.op.family v.ty → has_effect v ≡ true
    go (inl e) = e
    go (inr (inl e)) = is_called called (load_no_memory s f v t e)
    go (inr (inr (inl e))) = is_called called (check_no_memory s f v t e)
    go (inr (inr (inr (inl e)))) = absurd (i.2 e)
    go (inr (inr (inr (inr e)))) = absurd (z e)

-- the first state of all is memory
pub init_memory : (s : Setting) (f : FuncRecord) (v : ValueRecord) → HasTypes s f v → v.op.family ≡ op.InitMem → v.ty ≡ Mem
unfolding row entry
init_memory s f v t e = result_at s f v op.InitMem t e
