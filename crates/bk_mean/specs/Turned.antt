-- The turns of a block's values, one after the other.
use Rattle.std.specs.Prelude.{◌≡◌, ℕ, ◌+◌, List, [], ◌∷◌, slice_get, Option, Some, None, ◌⊎◌}
use Rattle.bk_ops.specs.declared.types.Target.{Target}
use Rattle.bk_func.specs.Records.{ValueRecord, BlockRecord, FuncRecord}
use Rattle.bk_func.specs.Numbers.{Program, Env, origin_of, number_by, address_of}
use Rattle.bk_func.specs.Effects.{Effect, effect_of}
use Rattle.bk_func.specs.Meaning.{World, Activation, Calls, fault_by, done_by}
use Rattle.bk_mean.specs.declared.step.After.{After}
use Rattle.bk_mean.specs.declared.step.After.TheVariants.{On, Call}
use Rattle.bk_mean.specs.declared.step.CallWords.{CallWords}
use Rattle.bk_mean.specs.declared.ready.ReadyValue.{ReadyValue}
use Rattle.bk_mean.specs.Step.{IsNoCall, Reads, Stands, IsSettled, IsActed, IsCalling, Sees, settled, fault_of, with_words, seeing, after_run}

-- what the values of a call have: numbers by places, the data window, and words
pub record Stage : Type 0 where
  pub numbers : List ℕ
  pub window : List ℕ
  pub words : CallWords

-- what a call is on
pub record Ground : Type 0 where
  pub target : Target
  pub args : List ℕ

-- the turn of a value at a place, from one stage to the next
pub record IsTurn (g : Ground) (v : ValueRecord) (r : ReadyValue) (place : ℕ) (a b : Stage) (x : After) : Type 0 where
  pub quiet : effect_of v.op.family v.ty ≡ None → (b.window ≡ a.window) × (b.words ≡ a.words)
  pub fault : effect_of v.op.family v.ty ≡ None → (p : Program) (f : FuncRecord) (e : Env) (m : ℕ → ℕ) → Stands p e g.target g.args → Reads a.numbers r.args.items m v.args
      → IsSettled (origin_of v.op.family) g.target v → fault_of x ≡ fault_by (origin_of v.op.family) g.target m a.window v
  pub number : effect_of v.op.family v.ty ≡ None → (p : Program) (f : FuncRecord) (e : Env) (m : ℕ → ℕ) → Stands p e g.target g.args → r.address ≡ address_of p.pkg v.aux
      → Reads a.numbers r.args.items m v.args → IsSettled (origin_of v.op.family) g.target v → Sees f e a.window (origin_of v.op.family) v → fault_of x ≡ None
      → b.numbers ≡ settled (origin_of v.op.family) a.numbers place (number_by (origin_of v.op.family) p f e m v)
  pub acted : (y : Effect) → effect_of v.op.family v.ty ≡ Some y → b.numbers ≡ a.numbers
  pub effect : (y : Effect) → effect_of v.op.family v.ty ≡ Some y → (p : Program) (m : ℕ → ℕ) (calls : Calls) (d : Activation) (w : World) → p.target ≡ g.target
      → Reads a.numbers r.args.items m v.args → IsActed y g.target v
      → done_by (Some y) calls p m v (with_words d a.words) (seeing w a.window) ≡ after_run x (with_words d b.words) (seeing w b.window)
  pub call : (y : Effect) → effect_of v.op.family v.ty ≡ Some y → IsCalling y → (x ≡ Call) × (b.window ≡ a.window) × (b.words ≡ a.words)
  pub on : effect_of v.op.family v.ty ≡ None → IsNoCall x
  pub acts_on : (y : Effect) → effect_of v.op.family v.ty ≡ Some y → ¬ IsCalling y → IsNoCall x

-- the turns of the values at places of a block, of which the first has a place in the function; the places that are left,
-- and the place in the function of the last value, with what came after it
pub data Turned (g : Ground) (c : BlockRecord) (first : ℕ) (rs : List ReadyValue) : List ℕ → Stage → Stage → List ℕ → ℕ → After → Type 0 where
  all : (a : Stage) (place : ℕ) → Turned g c first rs [] a a [] place On
  absent : (k : ℕ) (ks rest : List ℕ) (a b : Stage) (place : ℕ) (x : After) → (slice_get c.values k ≡ None) ⊎ (slice_get rs (first + k) ≡ None)
      → Turned g c first rs ks a b rest place x → Turned g c first rs (k ∷ ks) a b rest place x
  onward : (k : ℕ) (ks rest : List ℕ) (v : ValueRecord) (r : ReadyValue) (a b d : Stage) (place : ℕ) (x : After) → slice_get c.values k ≡ Some v → slice_get rs (first + k) ≡ Some r
      → IsTurn g v r (first + k) a b On → Turned g c first rs ks b d rest place x → Turned g c first rs (k ∷ ks) a d rest place x
  ends : (k : ℕ) (ks : List ℕ) (v : ValueRecord) (r : ReadyValue) (a b : Stage) (x : After) → slice_get c.values k ≡ Some v → slice_get rs (first + k) ≡ Some r
      → IsTurn g v r (first + k) a b x → ¬ (x ≡ On) → Turned g c first rs (k ∷ ks) a b ks (first + k) x

-- the turn of the value at a place of a block, if there is one, and its place in the function
abbrev pub TurnAt : Ground → BlockRecord → ℕ → List ReadyValue → ℕ → Stage → Stage → Option (ℕ × After) → Type 0
TurnAt g c first rs k a b None = ((slice_get c.values k ≡ None) ⊎ (slice_get rs (first + k) ≡ None)) × (b ≡ a)
TurnAt g c first rs k a b (Some t) =
    (t.0 ≡ first + k) × ((v : ValueRecord) × (r : ReadyValue) × (slice_get c.values k ≡ Some v) × (slice_get rs (first + k) ≡ Some r) × IsTurn g v r (first + k) a b t.1)
