-- How next uses run from block to block of a function, whose blocks are listed as they are laid out.
use Rattle.std.specs.Prelude.{◌≡◌, ◌⊎◌, ℕ, ◌≤◌, ◌==◌, false, List, [], ◌∷◌, ◌++◌, length, replicate, None}
use Rattle.std.specs.List.{Contains, position_or_len}
use Rattle.bk_func.specs.Records.{StepRecord, load, store}
use Rattle.bk_alloc.specs.declared.acts.Role.{Role}
use Rattle.bk_alloc.specs.declared.acts.Role.TheVariants.{Plain, Taken, Calls, Leaves}
use Rattle.bk_alloc.specs.Registers.{Uses}
use Rattle.bk_alloc.specs.Tasks.{TaskRecord}
use Rattle.bk_alloc.specs.Blocks.{Next, PlanRecord, first_map, phis_of, source_of}
use Rattle.bk_alloc_quality.specs.Pressure.{IsUsed, live, ArePressed, AreQuiet, IsFlow}

-- the pressure of a block: where it begins, its phis included, and at each of its values, it is at most so much
pub record IsLow (limit : ℕ) (words : List ℕ) (next : ℕ → Uses) (b : PlanRecord) : Type 0 where
  pub start : length (live words (next 0) (phis_of b)) ≤ limit
  pub values : ArePressed limit words next b.skipped b.tasks

-- what the value v of the successor's start is where the block a is left: a phi's argument, or itself
abbrev pub brought : PlanRecord → PlanRecord → ℕ → ℕ
brought a b v = source_of b.phis (position_or_len (λ n. n == a.id) b.preds) v

-- over an edge: what is live where b begins is live where a ends, and so are the arguments of b's phis, which are words
pub record IsBrought (words : List ℕ) (next : Next) (a b : PlanRecord) : Type 0 where
  pub live : (v : ℕ) → Contains words v → IsUsed (next b.id 0) v → IsUsed (next a.id a.size) v
  pub phis : (v : ℕ) → Contains (phis_of b) v → Contains words (brought a b v) × IsUsed (next a.id a.size) (brought a b v)

-- the value neither is a call nor takes a word that was passed in a register
abbrev pub IsCalmAs : TaskRecord → Role → Type 0
IsCalmAs t Plain = Unit
IsCalmAs t (Taken w) = ⊥
IsCalmAs t Calls = ⊥
IsCalmAs t Leaves = t.gives ≡ false

abbrev pub IsCalm : PlanRecord → Type 0
IsCalm b = (t : TaskRecord) → Contains b.tasks t → IsCalmAs t t.role

-- one of these blocks is a predecessor
abbrev pub HasBefore : List ℕ → PlanRecord → Type 0
HasBefore earlier b = (n : ℕ) × Contains earlier n × Contains b.preds n

-- a block that one of those before it leads to
pub record IsNext (earlier : List ℕ) (b : PlanRecord) : Type 0 where
  pub led : HasBefore earlier b
  pub calm : IsCalm b

-- a block that none of those before it leads to: nothing is live where it begins, with empty registers
pub record IsFirst (count : ℕ) (words : List ℕ) (next : Next) (earlier : List ℕ) (b : PlanRecord) : Type 0 where
  pub alone : ¬ HasBefore earlier b
  pub idle : (v : ℕ) → Contains words v → ¬ IsUsed (next b.id 0) v
  pub quiet : AreQuiet (next b.id) b.skipped b.tasks (first_map next b (replicate count None))

-- each of the blocks is one or the other
unfoldable pub AreLed : ℕ → List ℕ → Next → List ℕ → List PlanRecord → Type 0
AreLed count words next earlier [] = Unit
AreLed count words next earlier (b ∷ bs) =
    (IsNext earlier b ⊎ IsFirst count words next earlier b) × AreLed count words next (earlier ++ b.id ∷ []) bs

-- the blocks of a function
pub record AreFlows (count : ℕ) (words : List ℕ) (next : Next) (bs : List PlanRecord) : Type 0 where
  pub flow : (b : PlanRecord) → Contains bs b → IsFlow words (next b.id) b
  pub edge : (a b : PlanRecord) → Contains bs a → Contains bs b → Contains a.succs b.id → IsBrought words next a b
  pub agree : (a b : PlanRecord) → Contains bs a → Contains bs b → Contains b.preds a.id → Contains a.succs b.id
  pub led : AreLed count words next [] bs

-- the step takes nothing from a slot and puts nothing there
abbrev pub UsesNoSlot : StepRecord → Type 0
UsesNoSlot (load r s) = ⊥
UsesNoSlot (store r s) = ⊥
UsesNoSlot _ = Unit
