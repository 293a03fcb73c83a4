-- When a rule is sound: wherever its left tree stands and its conditions hold, its right tree has the same value.
-- This speaks of ops that have values by themselves, over numbers of the widths of their rows. A tree with an op that takes or
-- gives memory, or whose value is given, has no value here.
use Rattle.std.specs.Prelude.{ℕ, ◌≡◌, ◌<◌, ◌^◌, List, [], ◌∷◌, Option, Some, None, ℤ, pos, Bool, true, false, ◌==◌, IsTrue, IsSome, ◌⊎◌}
use Rattle.bk_num.specs.Word.{signed, residue}
use Rattle.bk_ops.specs.declared.types.Target.{Target}
use Rattle.bk_ops.specs.declared.family.Family.{Family}
use Rattle.bk_ops.specs.declared.family.Family.TheVariants.{Const, ConstBool, Copy, CondSelect}
use Rattle.bk_ops.specs.declared.table.Class.{Class}
use Rattle.bk_ops.specs.declared.table.Class.TheVariants.{ByType}
use Rattle.bk_ops.specs.declared.table.Op.{Op}
use Rattle.bk_ops.specs.Types.{width_of}
use Rattle.bk_ops.specs.Table.{row}
use Rattle.bk_ops.specs.Formulas.{any_width}
use Rattle.bk_ops.specs.Values.{value_row, places, op_value, result_width}
use Rattle.bk_rule.specs.declared.trees.IntPart.{IntPart}
use Rattle.bk_rule.specs.declared.trees.IntPart.TheVariants as part
use Rattle.bk_rule.specs.declared.trees.Pattern.{Pattern, Row_of-Pattern, end_of-Pattern, more_of-Pattern}
use Rattle.bk_rule.specs.declared.trees.Pattern as pattern
use Rattle.bk_rule.specs.declared.trees.Build.{Build, Row_of-Build, end_of-Build, more_of-Build}
use Rattle.bk_rule.specs.declared.trees.Build as build
use Rattle.bk_rule.specs.declared.trees.Expr.{Expr}
use Rattle.bk_rule.specs.declared.trees.Rule.{Rule}
use Rattle.bk_rule.specs.Expressions.{Env, expr_value, hold_each}

-- ---- AuxInts
-- a number as a value of the op keeps it: a constant of w bits sign-extended, a truth value as 0 or 1
abbrev pub kept_by : Family → ℕ → ℤ → ℤ
kept_by Const w k = signed w (residue w k)
kept_by ConstBool w k = pos (residue 1 k)
kept_by _ w k = signed 64 (residue 64 k)

abbrev pub kept : Op → ℤ → ℤ
kept o k = kept_by o.family o.a k

abbrev pub IsKept : Op → ℤ → Type 0
IsKept o k = kept o k ≡ k

-- an AuxInt that the op keeps as it is; where none is written, any such
abbrev pub WithInt : Env → Op → Option IntPart → (ℤ → Type 0) → Type 0
WithInt e o None P = (k : ℤ) × IsKept o k × P k
WithInt e o (Some (part.Number k)) P = IsKept o k × P k
WithInt e o (Some (part.Var i)) P = IsKept o (e.int i) × P (e.int i)

-- ---- widths
abbrev pub class_of : Op → Class
class_of o = (row o.family o.a o.b).info.result

-- a result of this class has w bits
abbrev pub IsOfWidth : Class → Target → ℕ → Type 0
IsOfWidth ByType t w = Unit {0}
IsOfWidth c t w = result_width c t ≡ w

-- a place that takes a number of any width
abbrev pub takes_any : Family → ℕ → Bool
takes_any Copy w = true
takes_any CondSelect w = w == any_width
takes_any _ w = false

-- the pattern's result may stand at a place of w bits of the op
abbrev pub FitsPlace : Target → Op → ℕ → Pattern → Type 0
FitsPlace t o w pattern.Any = Unit {0}
FitsPlace t o w (pattern.Var i) = Unit {0}
FitsPlace t o w (pattern.Node' name p ty int aux shape args) = IsTrue (takes_any o.family w) ⊎ IsOfWidth (class_of p) t w

-- ---- the left tree
abbrev pub Gives : Option ℕ → ℕ → Type 0
Gives None v = ⊥
Gives (Some u) v = u ≡ v

abbrev pub IsNamed : Env → Option ℕ → ℕ → Type 0
IsNamed e None v = Unit {0}
IsNamed e (Some i) v = e.value i ≡ v

-- a type that is named has the width of the result, which fits it
abbrev pub IsTyped : Target → Env → Option ℕ → Class → ℕ → Type 0
IsTyped t e None c v = Unit {0}
IsTyped t e (Some i) c v = IsOfWidth c t (width_of (e.ty i) t) × (v < 2 ^ width_of (e.ty i) t)

abbrev pub AtEnd : List ℕ → Type 0 → Type 0
AtEnd [] P = P
AtEnd (w ∷ ws) P = ⊥

abbrev pub AtPlace : List ℕ → (ℕ → List ℕ → Type 0) → Type 0
AtPlace [] P = ⊥
AtPlace (w ∷ ws) P = P w ws

abbrev mutual
  -- the tree can have this value
  pub Stands : Target → Pattern → Env → ℕ → Type 0
  Stands t pattern.Any e v = Unit {0}
  Stands t (pattern.Var i) e v = e.value i ≡ v
  Stands t (pattern.Node' name o ty int aux shape args) e v =
      IsNamed e name v × IsTyped t e ty (class_of o) v ×
      StandEach t o args (places o.family o.a o.b t) e (λ vs. WithInt e o int (λ k. Gives (value_row o.family o.a o.b k t vs) v))

  -- each argument can have a value that fits its place, and P holds of these values
  pub StandEach : Target → Op → {m : _} → Row_of-Pattern m → List ℕ → Env → (List ℕ → Type 0) → Type 0
  StandEach t o end_of-Pattern ws e P = AtEnd ws (P [])
  StandEach t o (more_of-Pattern p ps) ws e P =
      AtPlace ws (λ w ws. (v : ℕ) × (v < 2 ^ w) × FitsPlace t o w p × Stands t p e v × StandEach t o ps ws e (λ vs. P (v ∷ vs)))

-- ---- the right tree
abbrev pub in_front : ℕ → Option (List ℕ) → Option (List ℕ)
in_front v None = None
in_front v (Some vs) = Some (v ∷ vs)

abbrev pub all_some : List (Option ℕ) → Option (List ℕ)
all_some [] = Some []
all_some (None ∷ os) = None
all_some (Some v ∷ os) = in_front v (all_some os)

abbrev pub with_all : Option (List ℕ) → (List ℕ → Option ℕ) → Option ℕ
with_all None f = None
with_all (Some vs) f = f vs

abbrev pub at_int : Option ℤ → (ℤ → Option ℕ) → Option ℕ
at_int None f = None
at_int (Some k) f = f k

-- an AuxInt that is not written is 0
abbrev pub with_int : Target → Env → Option Expr → (ℤ → Option ℕ) → Option ℕ
with_int t e None f = f (pos 0)
with_int t e (Some x) f = at_int (expr_value t e x) f

abbrev mutual
  -- the value of the tree, None where an expression has none or a node has another count of arguments than its op
  pub built : Target → Env → Build → Option ℕ
  built t e (build.Var i) = Some (e.value i)
  built t e (build.Node' o ty int aux shape args) =
      with_all (all_some (built_each t e args)) (λ vs. with_int t e int (λ k. op_value o k vs t))

  pub built_each : Target → Env → {m : _} → Row_of-Build m → List (Option ℕ)
  built_each t e end_of-Build = []
  built_each t e (more_of-Build x xs) = built t e x ∷ built_each t e xs

abbrev pub HasInt : Target → Env → Option Expr → Type 0
HasInt t e None = Unit {0}
HasInt t e (Some x) = IsSome (expr_value t e x)

abbrev mutual
  -- each expression of the tree has a value
  pub HasInts : Target → Env → Build → Type 0
  HasInts t e (build.Var i) = Unit {0}
  HasInts t e (build.Node' o ty int aux shape args) = HasInt t e int × HaveInts t e args

  pub HaveInts : Target → Env → {m : _} → Row_of-Build m → Type 0
  HaveInts t e end_of-Build = Unit {0}
  HaveInts t e (more_of-Build x xs) = HasInts t e x × HaveInts t e xs

-- ---- rules
-- For all that the variables stand for, also each `_` and each AuxInt that the left tree does not write: where the left tree has
-- the value v, each condition holds and each expression of the right tree has a value, the right tree has the value v.
unfoldable pub SoundRule : Target → Rule → Type 0
SoundRule t r = (e : Env) (v : ℕ) → Stands t r.left e v → hold_each t e r.conds ≡ true → HasInts t e r.right → Gives (built t e r.right) v
