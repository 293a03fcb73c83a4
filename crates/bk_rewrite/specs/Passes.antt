-- What one pass makes of a function, and what passes come to.
use Rattle.std.specs.Prelude.{◌≡◌, ℕ, zero, suc, ◌-◌, ◌<◌, ◌⊎◌, Bool, true, false, if◌then◌else◌, List, [], ◌∷◌, map, slice_set, Option, Some, None}
use Rattle.bk_ops.specs.declared.types.Target.{Target}
use Rattle.bk_ops.specs.declared.family.Family.{Family}
use Rattle.bk_ops.specs.declared.family.Family.TheVariants.{Copy}
use Rattle.bk_func.specs.Records.{ValueRecord, BlockRecord, FuncRecord}
use Rattle.bk_func.specs.Numbers.{value_of, values_of}
use Rattle.bk_func.specs.Edits.{greatest_value}
use Rattle.bk_rule.specs.declared.trees.Bound.{Bound}
use Rattle.bk_rule.specs.declared.trees.Rule.{Rule}
use Rattle.bk_rewrite.specs.Places.{HasNumbers, StandsAt, value_at, with_block, count_values, value_limit}
use Rattle.bk_rewrite.specs.Making.{source, applied, Grows}
use Rattle.bk_rewrite.specs.First.{IsFirst, NoneMatches}

-- ---- Copies
abbrev pub is_copy : Family → Bool
is_copy Copy = true
is_copy _ = false

abbrev pub first_or : List ℕ → ℕ → ℕ
first_or [] x = x
first_or (y ∷ ys) x = y

-- what a number stands for, given the value that it names: one Copy is looked through
abbrev pub copied : Option ValueRecord → ℕ → ℕ
copied None x = x
copied (Some v) x = if is_copy v.op.family then first_or v.args x else x

abbrev pub copied_in : FuncRecord → ℕ → ℕ
copied_in f x = copied (value_of f x) x

abbrev pub with_args : ValueRecord → List ℕ → ValueRecord
with_args v xs = record v { args = xs }

-- the value with each argument that is a Copy replaced by what the Copy copies
abbrev pub looked_through : FuncRecord → ValueRecord → ValueRecord
looked_through f v = with_args v (map (copied_in f) v.args)

-- the block with this value at the place
abbrev pub with_value : ℕ → ValueRecord → BlockRecord → BlockRecord
with_value p v b = record b { values = slice_set b.values p v }

abbrev pub with_looked_through : FuncRecord → ℕ → ℕ → ValueRecord → FuncRecord
with_looked_through f b p v = with_block f b (with_value p (looked_through f v))

-- ---- one visit
-- the first rule that matches at the value v, which stands at place p of block b, and what its application makes
pub record Applies (t : Target) (rules : List Rule) (f : FuncRecord) (id b p : ℕ) (v : ValueRecord) (g : FuncRecord) : Type 0 where
  pub place : ℕ
  pub binds : List Bound
  pub orders : List Bool
  pub first : IsFirst t f rules id place binds orders
  pub gives : g ≡ applied (source f binds t) first.rule.right b p v

-- its application would add a value past the limit
pub record Exceeds (t : Target) (rules : List Rule) (f : FuncRecord) (id : ℕ) : Type 0 where
  pub place : ℕ
  pub binds : List Bound
  pub orders : List Bool
  pub first : IsFirst t f rules id place binds orders
  pub grows : Grows (source f binds t) first.rule.right

abbrev pub Tries : Target → List Rule → FuncRecord → ℕ → ℕ → ℕ → ValueRecord → FuncRecord → Type 0
Tries t rules f id b p v g = (NoneMatches t f rules id × (g ≡ f)) ⊎ Applies t rules f id b p v g

-- the value with this number, and where it stands
pub record Stands (f : FuncRecord) (id b p : ℕ) (v : ValueRecord) : Type 0 where
  pub value : value_at f b p ≡ Some v
  pub number : v.id ≡ id

-- a visit of the value: its arguments are looked through, then rules are tried
pub record Turned (t : Target) (rules : List Rule) (f : FuncRecord) (id : ℕ) (g : FuncRecord) : Type 0 where
  pub block : ℕ
  pub place : ℕ
  pub value : ValueRecord
  pub stands : Stands f id block place value
  pub tries : Tries t rules (with_looked_through f block place value) id block place (looked_through f value) g

pub record Stops (t : Target) (rules : List Rule) (f : FuncRecord) (id : ℕ) : Type 0 where
  pub block : ℕ
  pub place : ℕ
  pub value : ValueRecord
  pub stands : Stands f id block place value
  pub exceeds : Exceeds t rules (with_looked_through f block place value) id

-- nothing comes of a number that names no value
abbrev pub Visits : Target → List Rule → FuncRecord → ℕ → FuncRecord → Type 0
Visits t rules f id g = (((b p : ℕ) → StandsAt f id b p → ⊥) × (g ≡ f)) ⊎ Turned t rules f id g

-- ---- one pass
-- the values with these numbers are visited one after the other
abbrev pub VisitsEach : Target → List Rule → List ℕ → FuncRecord → FuncRecord → Type 0
VisitsEach t rules [] f g = g ≡ f
VisitsEach t rules (id ∷ ids) f g = (h : FuncRecord) × Visits t rules f id h × VisitsEach t rules ids h g

abbrev pub StopsAmong : Target → List Rule → List ℕ → FuncRecord → Type 0
StopsAmong t rules [] f = ⊥
StopsAmong t rules (id ∷ ids) f = Stops t rules f id ⊎ ((h : FuncRecord) × Visits t rules f id h × StopsAmong t rules ids h)

-- the numbers of the values, block by block
abbrev pub numbers : FuncRecord → List ℕ
numbers f = map (λ v. v.id) (values_of f)

abbrev pub IsPass : Target → List Rule → FuncRecord → FuncRecord → Type 0
IsPass t rules f g = VisitsEach t rules (numbers f) f g

-- a pass would add a value past the limit
abbrev pub PassExceeds : Target → List Rule → FuncRecord → Type 0
PassExceeds t rules f = StopsAmong t rules (numbers f) f

-- ---- pass after pass
-- n passes, each of which changes something
abbrev pub Changes : Target → List Rule → ℕ → FuncRecord → FuncRecord → Type 0
Changes t rules zero f g = g ≡ f
Changes t rules (suc n) f g = (h : FuncRecord) × IsPass t rules f h × (h ≡ f → ⊥) × Changes t rules n h g

-- fewer than n passes that change something, and then one that does not
pub record Settles (t : Target) (rules : List Rule) (n : ℕ) (f g : FuncRecord) : Type 0 where
  pub passes : ℕ
  pub fewer : passes < n
  pub changes : Changes t rules passes f g
  pub settled : IsPass t rules g g

-- fewer than n passes that change something, and then one that exceeds the limit
pub record Outgrows (t : Target) (rules : List Rule) (n : ℕ) (f : FuncRecord) : Type 0 where
  pub passes : ℕ
  pub fewer : passes < n
  pub func : FuncRecord
  pub changes : Changes t rules passes f func
  pub exceeds : PassExceeds t rules func

-- ---- what is counted
-- the numbers are those of the function, and room is what is left below the limit
pub record IsCounted (greatest room : ℕ) (f : FuncRecord) : Type 0 where
  pub numbers : HasNumbers f
  pub greatest_is : greatest ≡ greatest_value f
  pub room_is : room ≡ value_limit - count_values f
