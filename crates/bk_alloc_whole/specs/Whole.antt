-- Functions whose values all find registers.
use Rattle.std.specs.Prelude.{◌≡◌, ℕ, ◌<◌, false, List, length, filter, map, Some}
use Rattle.std.specs.List.{Contains, flat_map, slice_get}
use Rattle.bk_ops.specs.Families.{is_nil_check, is_word_call, is_word_result}
use Rattle.bk_ops.specs.declared.family.Family.TheVariants as op
use Rattle.bk_ops.specs.declared.types.Target.{Target}
use Rattle.bk_func.specs.Numbers.{natural}
use Rattle.bk_func.specs.Records.{ValueRecord, BlockRecord, FuncRecord}
use Rattle.bk_func.specs.Form.Text.{HasBlock, HasValue, IsEntry, IsPhi}
use Rattle.bk_graph.specs.Layout.{layout_of}
use Rattle.bk_live.specs.Live.{order_at}
use Rattle.bk_sched.specs.Schedule.{IsSchedule}
use Rattle.bk_alloc.specs.Blocks.{Next, PlanRecord}
use Rattle.bk_alloc.specs.Placement.{has_word, laid_out, registers_of}
use Rattle.bk_alloc.specs.Tasks.{passing}
use Rattle.bk_alloc_quality.specs.Flows.{IsLow}

-- the numbers of the words of a block, and of a function
abbrev pub words_in : BlockRecord → List ℕ
words_in b = map (λ (v : ValueRecord). v.id) (filter has_word b.values)

abbrev pub words_of : FuncRecord → List ℕ
words_of f = flat_map words_in f.blocks

-- each order is the schedule of its block
abbrev pub AreScheduled : FuncRecord → List (List ℕ) → Type 0
AreScheduled f orders = (i : ℕ) (b : BlockRecord) → slice_get f.blocks i ≡ Some b → IsSchedule b (order_at orders i)

-- the value takes a word that was passed in a register
abbrev pub TakesWord : ValueRecord → Type 0
TakesWord v = v.op.family ≡ op.ArgReg

-- the pressure is nowhere more than the target's registers
abbrev pub HasFewLive : Target → Next → FuncRecord → List (List ℕ) → Type 0
HasFewLive t next f orders = (b : PlanRecord) → Contains (laid_out f.blocks (layout_of f) orders) b → IsLow (length (registers_of t)) (words_of f) (next b.id) b

-- what a lowered function without calls has: no value is a call or a result of one; words that were passed in registers are taken
-- in the entry, each by one value and from a register that there is; no phi takes a nil check, and no block goes by one
pub record IsLoweredLeaf (t : Target) (f : FuncRecord) : Type 0 where
  pub calls : (b : BlockRecord) (v : ValueRecord) → HasValue f b v → (is_word_call v.op.family ≡ false) × (is_word_result v.op.family ≡ false)
  pub entry : (b : BlockRecord) (v : ValueRecord) → HasValue f b v → TakesWord v → IsEntry f b
  pub once : (b c : BlockRecord) (u v : ValueRecord) → HasValue f b u → HasValue f c v → TakesWord u → TakesWord v → natural u.int ≡ natural v.int → u.id ≡ v.id
  pub few : (b : BlockRecord) (v : ValueRecord) → HasValue f b v → TakesWord v → passing (natural v.int) < length (registers_of t)
  pub phis : (b c : BlockRecord) (u v : ValueRecord) → HasValue f b v → IsPhi v → HasValue f c u → Contains v.args u.id → is_nil_check u.op.family ≡ false
  pub controls : (b c : BlockRecord) (u : ValueRecord) → HasBlock f b → HasValue f c u → b.control ≡ Some u.id → is_nil_check u.op.family ≡ false
