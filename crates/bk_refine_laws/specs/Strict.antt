-- What the types of strict form say of a pure value: its number's low bits follow from the low bits of its arguments, and what
-- rules ask of it holds of these low bits.
use Rattle.std.specs.Prelude.{ℕ, ◌≡◌, ◌<◌, ◌%◌, ◌^◌, map, Some}
use Rattle.bk_ops.specs.declared.types.Target.{Target}
use Rattle.bk_ops.specs.Types.{width_of}
use Rattle.bk_ops.specs.Values.{places, value_row, op_value}
use Rattle.bk_func.specs.Records.{ValueRecord, FuncRecord}
use Rattle.bk_func.specs.Numbers.{value_of}
use Rattle.bk_rule.specs.Sound.{IsKept, IsOfWidth, class_of}
use Rattle.bk_rule.specs.WordSound.{bits, Agree}
use Rattle.bk_refine_laws.specs.Trees.{Computes}
use Rattle.bk_refine_laws.specs.Known.{FitEach}

-- the low bits of each number, as many as its value's type has
abbrev pub low : (ℕ → ℕ) → (ℕ → ℕ) → ℕ → ℕ
low width m x = m x % 2 ^ width x

-- the op's value at the low bits, x, and that at the whole numbers, y
pub record HasBoth (t : Target) (width m : ℕ → ℕ) (id : ℕ) (v : ValueRecord) : Type 0 where
  pub cut : ℕ
  pub whole : ℕ
  pub row : value_row v.op.family v.op.a v.op.b v.int t (map (low width m) v.args) ≡ Some cut
  pub op : op_value v.op v.int (map m v.args) t ≡ Some whole
  pub again : op_value v.op v.int (map (low width m) v.args) t ≡ Some cut
  pub below : cut < 2 ^ width id
  pub agree : Agree (width id) whole cut

pub record IsStrict (t : Target) (f : FuncRecord) (width : ℕ → ℕ) (id : ℕ) (v : ValueRecord) : Type 0 where
  pub kept : IsKept v.op v.int
  pub class : IsOfWidth (class_of v.op) t (width_of v.ty t)
  pub own : width id ≡ width_of v.ty t
  pub bits : bits t v ≡ width id
  pub fits : (m : ℕ → ℕ) → FitEach t f (low width m) v.op (places v.op.family v.op.a v.op.b t) v.args
  pub gives : (m : ℕ → ℕ) → HasBoth t width m id v

-- the function's pure values are strict
abbrev pub AreStrict : Target → FuncRecord → (ℕ → ℕ) → Type 0
AreStrict t f width = (id : ℕ) (v : ValueRecord) → value_of f id ≡ Some v → Computes v.op → IsStrict t f width id v
