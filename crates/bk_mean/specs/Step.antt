-- One value of a block in its turn, as the meaning has it.
use Rattle.std.specs.Prelude.{◌≡◌, ℕ, ◌<◌, ◌≤◌, Bool, true, false, List, length, map, slice_index, slice_set, Option, Some, None}
use Rattle.bk_ops.specs.Table.{is_op}
use Rattle.bk_ops.specs.Types.{size_of_ty}
use Rattle.bk_ops.specs.declared.family.Family.{Family}
use Rattle.bk_ops.specs.declared.family.Family.TheVariants as op
use Rattle.bk_ops.specs.declared.family.ArmOp.TheVariants as arm
use Rattle.bk_ops.specs.declared.family.RvOp.TheVariants as rv
use Rattle.bk_ops.specs.declared.types.Target.{Target}
use Rattle.bk_func.specs.declared.parts.Aux.{Aux}
use Rattle.bk_func.specs.declared.parts.Aux.TheVariants as beside
use Rattle.bk_func.specs.Records.{ValueRecord, FuncRecord}
use Rattle.bk_func.specs.Numbers.{Program, Env, Origin, phi, result, loaded, checked, same, computed, natural, load_size, state_of}
use Rattle.bk_func.specs.Effects as fx
use Rattle.bk_func.specs.Meaning.{Outcome, trapped, wild, World, Run, gives, stops, Activation, store_size}
use Rattle.bk_mean.specs.declared.step.After.{After}
use Rattle.bk_mean.specs.declared.step.After.TheVariants.{On, Trap, Wild, Call}
use Rattle.bk_mean.specs.declared.step.CallWords.{CallWords}
use Rattle.bk_mean.specs.Seen.{word_in}

-- the numbers at a value's places are those that m gives its arguments
pub record Reads (numbers places : List ℕ) (m : ℕ → ℕ) (args : List ℕ) : Type 0 where
  pub same : map (slice_index numbers) places ≡ map m args

-- what a call is on
pub record Stands (p : Program) (e : Env) (t : Target) (ns : List ℕ) : Type 0 where
  pub target : p.target ≡ t
  pub args : e.args ≡ ns

-- the value has the arguments that its number follows from; checks and loads have their own turn, and numbers of edges and
-- calls follow from no arguments
abbrev pub Follows : Origin → ValueRecord → Type 0
Follows phi v = ⊥
Follows result v = ⊥
Follows loaded v = ⊥
Follows checked v = ⊥
Follows same v = 0 < length v.args
Follows computed v = is_op v.op.family v.op.a v.op.b ≡ true
Follows _ v = Unit {0}

-- the same of a value in its turn, where a load reads at most 8 bytes
abbrev pub IsSettled : Origin → Target → ValueRecord → Type 0
IsSettled phi t v = Unit {0}
IsSettled result t v = Unit {0}
IsSettled loaded t v = (0 < length v.args) × (load_size t v.ty v.op v.op.family ≤ 8)
IsSettled checked t v = 0 < length v.args
IsSettled o t v = Follows o v

-- the numbers after a value's turn: those of edges and calls are there before it
abbrev pub settled : Origin → List ℕ → ℕ → ℕ → List ℕ
settled phi numbers place n = numbers
settled result numbers place n = numbers
settled _ numbers place n = slice_set numbers place n

-- the state of memory that a load reads has this window
abbrev pub Sees : FuncRecord → Env → List ℕ → Origin → ValueRecord → Type 0
Sees f e window loaded v = (s : ℕ) × (state_of f v ≡ Some s) × (e.windows s ≡ window)
Sees f e window _ v = Unit {0}

-- how a value ends the run, if it does
abbrev pub fault_of : After → Option Outcome
fault_of On = None
fault_of (Trap n) = Some (trapped n)
fault_of (Wild x) = Some (wild x)
fault_of Call = None

-- a memory value has its arguments, and its numbers fit
abbrev pub IsActed : fx.Effect → Target → ValueRecord → Type 0
IsActed fx.store t v = (1 < length v.args) × (store_size t v.aux v.op v.op.family ≤ 8)
IsActed fx.zeros t v = 0 < length v.args
IsActed fx.move t v = 1 < length v.args
IsActed fx.out_word t v = 0 < length v.args
IsActed fx.ret_word t v = 0 < length v.args
IsActed fx.trap t v = natural v.int < 256
IsActed fx.call t v = ⊥
IsActed fx.call_words t v = ⊥
IsActed _ t v = Unit {0}

-- a call with these words, and the world with this window
abbrev pub with_words : Activation → CallWords → Activation
with_words a ws = record a { out = word_in ws.out; back = word_in ws.back; regs = ws.regs.items }

abbrev pub seeing : World → List ℕ → World
seeing w window = record w { window = window }

-- what comes after a value
abbrev pub after_run : After → Activation → World → Run Activation
after_run On a w = gives a w
after_run (Trap n) a w = stops (trapped n) w.window
after_run (Wild x) a w = stops (wild x) w.window
after_run Call a w = gives a w

-- the ops that store a number of a type that stands beside them, and those that store one byte
abbrev pub is_store : Family → Bool
is_store op.Store = true
is_store _ = false

abbrev pub is_byte_store : Family → Bool
is_byte_store (op.Arm arm.StoreB) = true
is_byte_store (op.Rv rv.StoreB) = true
is_byte_store _ = false

abbrev pub size_beside : Target → Aux → ℕ
size_beside t (beside.Ty ty) = size_of_ty ty t
size_beside t _ = 0

-- a call of a function
abbrev pub IsCalling : fx.Effect → Type 0
IsCalling fx.call = Unit {0}
IsCalling fx.call_words = Unit {0}
IsCalling _ = ⊥

-- the value calls no function
abbrev pub IsNoCall : After → Type 0
IsNoCall Call = ⊥
IsNoCall _ = Unit {0}
