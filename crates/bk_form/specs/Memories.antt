-- What the memory of a function is measured against.
use Rattle.std.specs.Prelude.{◌≡◌, ℕ, ◌<◌, false, List, length, Option, Some, None, slice_index_or}
use Rattle.std.specs.List.{slice_get}
use Rattle.std.specs.Option.{option_and_then}
use Rattle.bk_ops.specs.Families.{is_call_result}
use Rattle.bk_ops.specs.declared.family.Family.TheVariants.{MakeResult}
use Rattle.bk_ops.specs.declared.types.Ty.TheVariants.{Mem}
use Rattle.bk_func.specs.Records.{ValueRecord, BlockRecord, FuncRecord}
use Rattle.bk_func.specs.Form.Text.{HasBlock, HasValue, IsPhi}
use Rattle.bk_func.specs.Form.Walks.{IsReached}
use Rattle.bk_func.specs.Form.States.{StandsFor, NamesAt, Names, IsLastState, IsStateIn}
use Rattle.bk_form.specs.declared.memory.Memories.{Memories}
use Rattle.bk_places.specs.Search.{Reverses}
use Rattle.bk_form.specs.Carried.{AreFirstStates}
use Rattle.bk_form.specs.Chains.{AreChains, AreHomes}
use Rattle.bk_form.specs.Naming.{IsFirstOf}
use Rattle.bk_form.specs.Numbers.{value_ids, sole}
use Rattle.bk_form.specs.Places.{nodes_of}
use Rattle.bk_form.specs.Roots.{AreRoots}
use Rattle.bk_form.specs.Walks.{IsFlow, IsRow}

-- for each block the place of its control
pub record AreControls (f : FuncRecord) (ks : List (Option ℕ)) : Type 0 where
  pub size : length ks ≡ length f.blocks
  pub each : (i : ℕ) (b : BlockRecord) → slice_get f.blocks i ≡ Some b → slice_index_or ks i None ≡ option_and_then (λ n. sole (value_ids f) n) b.control

-- edges from the places of values to those of the blocks whose control they are
abbrev pub IsControlled : FuncRecord → List (List ℕ) → Type 0
IsControlled f es = (ks : List (Option ℕ)) × AreControls f ks × (length es ≡ length (nodes_of f)) × Reverses ks es

abbrev pub func_of : Memories → FuncRecord
func_of m = m.flow.now.scope.func.now

pub record AreMemories (m : Memories) : Type 0 where
  pub flow : IsFlow m.flow.now
  pub roots : AreRoots (func_of m) m.roots.now
  pub initial : IsFirstOf (func_of m) m.initial
  pub homes : AreHomes (func_of m) m.homes.now
  pub chains : AreChains (func_of m) m.chains.items
  pub reached : IsRow m.flow.now.edges (length m.flow.now.edges) m.reached
  pub firsts : AreFirstStates (func_of m) m.firsts.items
  pub controlled : IsControlled (func_of m) m.controlled

-- the fact holds of the block at the place
abbrev pub At : FuncRecord → ℕ → (BlockRecord → Type 0) → Type 0
At f i P = (b : BlockRecord) → slice_get f.blocks i ≡ Some b → P b

-- both are there, and one
abbrev pub Meets : Option ℕ → Option ℕ → Type 0
Meets a b = (p : ℕ) × (a ≡ Some p) × (b ≡ Some p)

-- the value names the last state of the block
abbrev pub NamesLast : FuncRecord → BlockRecord → ValueRecord → Type 0
NamesLast f b v = (s : ℕ) × Names f v s × IsLastState f b s

-- the value names a state that values of the block may name
abbrev pub NamesWithin : FuncRecord → BlockRecord → ValueRecord → Type 0
NamesWithin f b v = (s : ℕ) × Names f v s × IsStateIn f b s

-- and does so, if it must
abbrev pub NamesRight : FuncRecord → BlockRecord → ValueRecord → Type 0
NamesRight f b v =
    (k : ℕ) → ¬ IsPhi v → ¬ (v.op.family ≡ MakeResult) → is_call_result v.op.family ≡ false → IsReached f b → NamesAt v k → k < length v.args → NamesWithin f b v

-- the number is that of memory which is the block's last state, or of the results of another block which name it
abbrev pub EndsWith : FuncRecord → BlockRecord → ℕ → Type 0
EndsWith f b m = (c : BlockRecord) (v : ValueRecord) → HasValue f c v → v.id ≡ m
    → (v.op.family ≡ MakeResult → ¬ (c.id ≡ b.id) → NamesLast f b v) × (¬ (v.op.family ≡ MakeResult) → v.ty ≡ Mem → IsLastState f b m)

-- the number stands for the last state of the block, where it is reached
abbrev pub TakesLast : FuncRecord → BlockRecord → ℕ → Type 0
TakesLast f p n = IsReached f p → (s : ℕ) × StandsFor f n s × IsLastState f p s

-- that of the block with this number, if there is a number
abbrev pub TakesBehind : FuncRecord → Option ℕ → ℕ → Type 0
TakesBehind f pred n = (p : BlockRecord) → pred ≡ Some p.id → HasBlock f p → TakesLast f p n

-- each number that of the block whose number has its place
abbrev pub TakesBefore : FuncRecord → List ℕ → List ℕ → Type 0
TakesBefore f preds ns = (k n : ℕ) (p : BlockRecord) → slice_get ns k ≡ Some n → slice_get preds k ≡ Some p.id → HasBlock f p → TakesLast f p n
