-- What the variables of a rule are bound to.
use Rattle.std.specs.Prelude.{ℕ, ℤ, pos, List, Option, Some, slice_get}
use Rattle.bk_ops.specs.declared.types.Ty.{Ty}
use Rattle.bk_ops.specs.declared.types.Ty.TheVariants.{Void}
use Rattle.bk_func.specs.Records.{FuncRecord}
use Rattle.bk_func.specs.Edits.{uses_of}
use Rattle.bk_rule.specs.declared.trees.Bound.{Bound}
use Rattle.bk_rule.specs.declared.trees.Bound.TheVariants.{Value, Int, Ty as OfType, Sym, Arg}
use Rattle.bk_rule.specs.Expressions.{Env}

-- what a variable is bound to, by its kind; what a variable of another kind gives is not read
abbrev pub value_in : Option Bound → ℕ
value_in (Some (Value id)) = id
value_in _ = 0

abbrev pub int_in : Option Bound → ℤ
int_in (Some (Int k)) = k
int_in _ = pos 0

abbrev pub type_in : Option Bound → Ty
type_in (Some (OfType t)) = t
type_in _ = Void

abbrev pub symbol_in : Option Bound → ℕ
symbol_in (Some (Sym s)) = s
symbol_in _ = 0

abbrev pub place_in : Option Bound → ℕ
place_in (Some (Arg i)) = i
place_in _ = 0

-- the bindings, with the uses that the function has of each value
abbrev pub bound_env : FuncRecord → List Bound → Env
bound_env f bs = record {
  value = λ i. value_in (slice_get bs i);
  int = λ i. int_in (slice_get bs i);
  ty = λ i. type_in (slice_get bs i);
  symbol = λ i. symbol_in (slice_get bs i);
  place = λ i. place_in (slice_get bs i);
  uses = λ i. uses_of f (value_in (slice_get bs i));
}
