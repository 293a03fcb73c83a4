-- What a block does, and in which order: at each state of memory its checks and loads, then the next memory value.
use Rattle.std.specs.Prelude.{ℕ, zero, suc, ◌==◌, Bool, true, false, ◌&&◌, ◌||◌, not, if◌then◌else◌, List, [], ◌∷◌, ◌++◌, length, flat_map, count_by, filter, find, Option, Some, None, is_some}
use Rattle.std.specs.List.{list_any}
use Rattle.bk_ops.specs.declared.family.Family.{Family}
use Rattle.bk_ops.specs.declared.family.Family.TheVariants as op
use Rattle.bk_ops.specs.declared.family.ArmOp.TheVariants as arm
use Rattle.bk_ops.specs.declared.family.RvOp.TheVariants as rv
use Rattle.bk_ops.specs.declared.types.Ty.{Ty}
use Rattle.bk_func.specs.Records.{ValueRecord, BlockRecord, FuncRecord}
use Rattle.bk_func.specs.Numbers.{Origin, phi, loaded, checked, origin_of, state_of, value_in, room, is_mem}

-- what a memory value does to memory and words, or to the run
pub data Effect : Type 0 where
  store : Effect
  zeros : Effect
  move : Effect
  panic_bounds : Effect
  call : Effect
  call_words : Effect
  out_word : Effect
  ret_word : Effect
  ret_words : Effect
  trap : Effect
  pass : Effect

-- the effect of a memory value that another one stands before; other values have none
abbrev pub effect_of : Family → Ty → Option Effect
effect_of op.Store ty = Some store
effect_of (op.Arm arm.Store) ty = Some store
effect_of (op.Arm arm.StoreB) ty = Some store
effect_of (op.Rv rv.Store) ty = Some store
effect_of (op.Rv rv.StoreB) ty = Some store
effect_of op.Zero ty = Some zeros
effect_of (op.Arm arm.Zero) ty = Some zeros
effect_of (op.Rv rv.Zero) ty = Some zeros
effect_of op.Move ty = Some move
effect_of (op.Arm arm.Move) ty = Some move
effect_of (op.Rv rv.Move) ty = Some move
effect_of op.PanicBounds ty = Some panic_bounds
effect_of op.StaticLECall ty = Some call
effect_of op.Call ty = Some call_words
effect_of op.CallRegs ty = Some call_words
effect_of op.OutWord ty = Some out_word
effect_of op.RetWord ty = Some ret_word
effect_of op.RetRegs ty = Some ret_words
effect_of op.Trap ty = Some trap
effect_of op.SelectN ty = if is_mem ty then Some pass else None
effect_of _ ty = None

abbrev pub has_effect : ValueRecord → Bool
has_effect v = is_some (effect_of v.op.family v.ty)

abbrev pub is_at : Option ℕ → ℕ → Bool
is_at None s = false
is_at (Some n) s = n == s

abbrev pub is_phi : Origin → Bool
is_phi phi = true
is_phi _ = false

abbrev pub is_check : Origin → Bool
is_check checked = true
is_check _ = false

abbrev pub is_load : Origin → Bool
is_load loaded = true
is_load _ = false

-- the nil checks of a state in a block, its loads, and the next memory value
abbrev pub checks_at : FuncRecord → BlockRecord → ℕ → List ValueRecord
checks_at f b s = filter (λ v. is_check (origin_of v.op.family) && is_at (state_of f v) s) b.values

abbrev pub loads_at : FuncRecord → BlockRecord → ℕ → List ValueRecord
loads_at f b s = filter (λ v. is_load (origin_of v.op.family) && is_at (state_of f v) s) b.values

abbrev pub next_at : FuncRecord → BlockRecord → ℕ → Option ValueRecord
next_at f b s = find (λ v. has_effect v && is_at (state_of f v) s) b.values

-- the memory values of the block that follow a state, each naming the one before it
abbrev pub onward : Option ValueRecord → (ℕ → List ValueRecord) → List ValueRecord
onward None rest = []
onward (Some v) rest = v ∷ rest v.id

unfoldable pub chain : ℕ → FuncRecord → BlockRecord → ℕ → List ValueRecord
chain zero f b s = []
chain (suc k) f b s = onward (next_at f b s) (chain k f b)

abbrev pub chain_from : FuncRecord → BlockRecord → ℕ → List ValueRecord
chain_from f b s = chain (count_by has_effect b.values) f b s

-- the value needs the number, through arguments in the block at most k deep; a phi needs nothing there
abbrev pub needed_by : Option ValueRecord → (List ℕ → Bool) → Bool
needed_by None test = false
needed_by (Some v) test = not (is_phi (origin_of v.op.family)) && test v.args

unfoldable pub needs : ℕ → BlockRecord → Option ValueRecord → ℕ → Bool
needs zero b v n = false
needs (suc k) b v n = needed_by v (list_any (λ a. a == n || needs k b (value_in b.values a) n))

-- a value right after the loads that it needs, in list order, each of them likewise after those that it needs
unfoldable pub after_needs : ℕ → FuncRecord → BlockRecord → List ValueRecord → ValueRecord → List ValueRecord
after_needs zero f b loads v = v ∷ []
after_needs (suc k) f b loads v =
    flat_map (after_needs k f b loads) (filter (λ u. needs (room f) b (Some v) u.id) loads) ++ v ∷ []

-- the checks and loads of a state in their order: the checks as listed, then the loads as listed, each after the loads that
-- it needs; a load that was done before does nothing when it comes again
abbrev pub order : FuncRecord → BlockRecord → ℕ → List ValueRecord
order f b s = flat_map (after_needs (length (loads_at f b s)) f b (loads_at f b s)) (checks_at f b s ++ loads_at f b s)
