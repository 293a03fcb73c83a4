-- The numbers of a function in form: each fits its type and the places where it is taken, and that of a pure op is the op's value.
use Rattle.std.specs.Prelude.{ℕ, ◌≡◌, ◌<◌, ◌^◌, List, [], ◌∷◌, map, Some, IsTrue, ◌⊎◌}
use Rattle.bk_ops.specs.declared.types.Target.{Target}
use Rattle.bk_ops.specs.declared.table.Op.{Op}
use Rattle.bk_ops.specs.Types.{width_of}
use Rattle.bk_ops.specs.Values.{places, value_row}
use Rattle.bk_func.specs.Records.{ValueRecord, FuncRecord}
use Rattle.bk_func.specs.Numbers.{value_of}
use Rattle.bk_refine_laws.specs.Trees.{Computes}
use Rattle.bk_rule.specs.Sound.{IsKept, IsOfWidth, class_of, takes_any, Gives}

-- the value with this number may stand at a place of w bits of the op
pub record FitsAt (t : Target) (f : FuncRecord) (m : ℕ → ℕ) (o : Op) (w id : ℕ) : Type 0 where
  pub below : m id < 2 ^ w
  pub class : (u : ValueRecord) → value_of f id ≡ Some u → IsTrue (takes_any o.family w) ⊎ IsOfWidth (class_of u.op) t w

abbrev pub FitEach : Target → FuncRecord → (ℕ → ℕ) → Op → List ℕ → List ℕ → Type 0
FitEach t f m o [] [] = Unit {0}
FitEach t f m o [] (i ∷ is) = ⊥
FitEach t f m o (w ∷ ws) [] = ⊥
FitEach t f m o (w ∷ ws) (i ∷ is) = FitsAt t f m o w i × FitEach t f m o ws is

-- the value v of the op o has its number
pub record Has (t : Target) (f : FuncRecord) (m : ℕ → ℕ) (id : ℕ) (v : ValueRecord) (o : Op) : Type 0 where
  pub kept : IsKept o v.int
  pub width : IsOfWidth (class_of o) t (width_of v.ty t)
  pub below : m id < 2 ^ width_of v.ty t
  pub fits : FitEach t f m o (places o.family o.a o.b t) v.args
  pub gives : Gives (value_row o.family o.a o.b v.int t (map m v.args)) (m id)

-- m has the numbers of the function's pure values
abbrev pub Knows : Target → FuncRecord → (ℕ → ℕ) → Type 0
Knows t f m = (id : ℕ) (v : ValueRecord) → value_of f id ≡ Some v → Computes v.op → Has t f m id v v.op

-- the same of the live values that rank below top
abbrev pub KnowsBelow : Target → FuncRecord → (ℕ → ℕ) → (ℕ → Type 0) → (ℕ → ℕ) → ℕ → Type 0
KnowsBelow t f m live rank top = (id : ℕ) (v : ValueRecord) → value_of f id ≡ Some v → Computes v.op → live id → rank id < top → Has t f m id v v.op
