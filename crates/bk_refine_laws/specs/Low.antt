-- Numbers that agree in their low bits, as many as their types have: what two runs may differ in where one is of a function whose
-- narrow values have garbage in their high bits.
use Rattle.std.specs.Prelude.{ℕ, ◌≡◌, ◌≤◌, map, Option, Some, None, slice_index}
use Rattle.bk_ops.specs.Types.{word_width, width_of}
use Rattle.bk_ops.specs.Values.{op_value}
use Rattle.bk_func.specs.Records.{ValueRecord, FuncRecord}
use Rattle.bk_func.specs.Numbers.{Program, Env, Origin, phi, argument, argument_word, result, address, loaded, checked, same, computed, origin_of, value_of, natural, place_of_arg, result_place}
use Rattle.bk_func.proofs.Faults.{In}
use Rattle.bk_rule.specs.WordSound.{bits, Agree}

-- both are there, and agree in the low bits
abbrev pub LowSame : ℕ → Option ℕ → Option ℕ → Type 0
LowSame w None o = ⊥
LowSame w (Some a) None = ⊥
LowSame w (Some a) (Some b) = Agree w a b

-- how many low bits two runs have in common: of each value, of each argument, and of each result of a call, by number of the call
pub record Widths : Type 0 where
  pub value : ℕ → ℕ
  pub argument : ℕ → ℕ
  pub result : ℕ → ℕ → ℕ

-- The value of so many bits follows, up to these, from the low bits of what it takes.
abbrev pub IsNarrow : Origin → Program → FuncRecord → Widths → ValueRecord → ℕ → Type 0
IsNarrow computed p f width v w =
    (w ≤ bits p.target v) ×
    ((m n : ℕ → ℕ) → ((x : ℕ) → In x v.args → Agree (width.value x) (m x) (n x)) →
    LowSame (bits p.target v) (op_value v.op v.int (map m v.args) p.target) (op_value v.op v.int (map n v.args) p.target))
IsNarrow loaded p f width v w = (word_width p.target ≤ width.value (slice_index v.args 0)) × (w ≤ bits p.target v)
IsNarrow address p f width v w = w ≤ bits p.target v
IsNarrow checked p f width v w = w ≤ width.value (slice_index v.args 0)
IsNarrow same p f width v w = w ≤ width.value (slice_index v.args 0)
IsNarrow argument p f width v w = (w ≤ width_of v.ty p.target) × (w ≤ width.argument (place_of_arg v.aux))
IsNarrow argument_word p f width v w = w ≤ width.argument (natural v.int)
IsNarrow result p f width v w =
    (w ≤ width_of v.ty p.target) × (w ≤ width.result (slice_index v.args 0) (result_place v.op.family p f v))
IsNarrow phi p f width v w = Unit {0}

-- each value of data does so, as in a function in strict form
abbrev pub AreNarrow : Program → FuncRecord → (ℕ → Type 0) → Widths → Type 0
AreNarrow p f held width =
    (id : ℕ) → held id → (v : ValueRecord) × (value_of f id ≡ Some v) × (v.id ≡ id) × IsNarrow (origin_of v.op.family) p f width v (width.value id)

-- environments that agree in the low bits of arguments, phis and results, and in the windows
pub record LowEnv (width : Widths) (e d : Env) : Type 0 where
  pub args : (j : ℕ) → Agree (width.argument j) (slice_index e.args j) (slice_index d.args j)
  pub phis : (id : ℕ) → Agree (width.value id) (e.phis id) (d.phis id)
  pub given : (id j : ℕ) → Agree (width.result id j) (slice_index (e.given id) j) (slice_index (d.given id) j)
  pub windows : e.windows ≡ d.windows
